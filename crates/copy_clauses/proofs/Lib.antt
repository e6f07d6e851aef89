pub mod Rules
pub mod Copy
