pub mod Laws
pub mod Refusals
pub mod Reached
pub mod Settled
