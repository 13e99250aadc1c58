pub mod SpinUp
pub mod Reached
pub mod Settled
