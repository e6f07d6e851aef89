pub mod Program
pub mod Text
pub mod Decoded
pub mod Meaning
pub mod Claims
