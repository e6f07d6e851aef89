pub mod Program
pub mod LeastModel
pub mod Least
pub mod StableModel
pub mod AnswerSet
pub mod Count
pub mod Claims
