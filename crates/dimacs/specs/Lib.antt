pub mod Text
pub mod Decoded
pub mod inner
