pub mod Lists
pub mod Questions
pub mod Records
pub mod Walk
pub mod Sequences
