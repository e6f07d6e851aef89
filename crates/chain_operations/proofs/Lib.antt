pub mod Testing
pub mod Finding
