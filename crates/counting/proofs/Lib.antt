pub mod Returning
pub mod Gating
pub mod Deciding
