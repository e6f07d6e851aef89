pub mod Questions
pub mod Promises
pub mod Writing
pub mod Default
pub mod Bodies
pub mod Verdicts
