pub mod Tenths
pub mod Counting
pub mod Laws
pub mod Examples
