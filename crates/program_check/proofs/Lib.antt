pub mod Components
pub mod Programs
