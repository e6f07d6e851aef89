pub mod Demands
pub mod Services
pub mod Lengthened
pub mod Claims
