pub mod Signs
pub mod Rule
