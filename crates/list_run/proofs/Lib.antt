pub mod Laws
pub mod Months
pub mod Kept
pub mod Refusals
pub mod ListCalls
pub mod Rows
