pub mod Month
pub mod Sources
