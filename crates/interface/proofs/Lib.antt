pub mod Storing
pub mod Returning
pub mod Demands
