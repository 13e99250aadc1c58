pub mod Lines
pub mod Unwritten
