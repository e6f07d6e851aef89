pub mod Exported
pub mod Seen
