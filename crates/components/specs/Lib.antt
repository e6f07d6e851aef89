pub mod Limit
pub mod Claims
pub mod inner
