pub mod Digits
pub mod Loops
pub mod Lines
