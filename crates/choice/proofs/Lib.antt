pub mod Expanded
pub mod Unique
pub mod Meaning
pub mod Number
pub mod Claims
pub mod Sheets
