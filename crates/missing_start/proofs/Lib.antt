pub mod Sofar
pub mod Found
