-- What inner functions promise: no public promise rests on it.
pub mod Decided
pub mod Rules
pub mod Masked
pub mod Search
