pub mod Rounds
pub mod Derived
pub mod Same
pub mod Counted
pub mod Occurring
pub mod Claims
