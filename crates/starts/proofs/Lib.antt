pub mod Sets
pub mod Starts
