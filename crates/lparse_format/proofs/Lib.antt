pub mod Decoding
pub mod Reading
pub mod Meaning
pub mod Longest
pub mod Claims
