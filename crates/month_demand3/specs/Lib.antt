pub mod Calls
pub mod Recurrence
pub mod Demand
