pub mod Calls
pub mod Numbers
pub mod Accepting
pub mod Demands
pub mod Default
pub mod Services
pub mod Lengthened
pub mod Claims
