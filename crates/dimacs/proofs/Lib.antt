pub mod Split
pub mod Words
pub mod Lines
pub mod Clauses
pub mod Decoding
