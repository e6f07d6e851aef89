pub mod Bools
pub mod Members
pub mod Nodup
pub mod Sublists
pub mod Sorted
pub mod Tables
pub mod Rows
