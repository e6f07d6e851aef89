pub mod Written
pub mod Claims
pub mod inner
