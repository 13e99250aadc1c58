pub mod TableText
pub mod Frost
