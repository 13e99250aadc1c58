-- The proof of demand 3, from one pool's month up to any list of calls.
pub mod Part
pub mod Additions
pub mod Step
pub mod Bounds
pub mod Distance
pub mod Balance
pub mod Demand
pub mod Exists
