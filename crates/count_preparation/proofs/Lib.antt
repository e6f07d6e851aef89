pub mod Asking
pub mod Ordering
