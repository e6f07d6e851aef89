pub mod Entries
pub mod Sequences
