pub mod DecisionAtoms
pub mod inner
