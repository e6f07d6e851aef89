pub mod Testing
pub mod Components
