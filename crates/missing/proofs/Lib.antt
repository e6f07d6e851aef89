pub mod Extensions
pub mod Extending
pub mod Written
