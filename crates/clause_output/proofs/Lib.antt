pub mod Backs
pub mod Whole
