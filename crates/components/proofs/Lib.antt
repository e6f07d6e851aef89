pub mod Warshall
pub mod Closing
pub mod Naming
pub mod Graphs
pub mod Claims
