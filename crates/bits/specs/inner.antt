-- What inner functions promise: no public promise rests on it.
pub mod Sets
pub mod Visited
pub mod Listed
