pub mod Lines
pub mod LineText
