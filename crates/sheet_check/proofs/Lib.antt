pub mod Bytes
pub mod Graphs
pub mod Sheets
