pub mod Run
pub mod ListCalls
