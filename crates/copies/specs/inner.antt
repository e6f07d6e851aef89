-- What inner functions promise: no public promise rests on it.
pub mod Tables
pub mod Bodies
pub mod Made
pub mod Kept
pub mod Ready
pub mod Given
