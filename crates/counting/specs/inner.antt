-- What inner functions promise: no public promise rests on it.
pub mod Gates
pub mod Returns
pub mod RecordsCounted
