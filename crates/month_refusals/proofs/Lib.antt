pub mod First
pub mod Accepted
pub mod Order
