pub mod Tables
pub mod Placing
pub mod Keeping
pub mod Selecting
pub mod Going
pub mod Sizes
pub mod Emitting
