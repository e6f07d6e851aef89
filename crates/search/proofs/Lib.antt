pub mod Branching
pub mod Firing
pub mod Passes
pub mod Constraints
pub mod Tasks
pub mod Propagating
pub mod Search
pub mod Seeking
