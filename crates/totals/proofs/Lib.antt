pub mod Sizing
pub mod Totalling
