pub mod Questions
pub mod Format
pub mod Sheet
pub mod Sequence
pub mod inner
