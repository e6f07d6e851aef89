pub mod Parts
pub mod Sizes
pub mod Texts
pub mod Claims
