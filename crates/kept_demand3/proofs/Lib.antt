pub mod Aside
pub mod Remains
pub mod CallsAlone
pub mod Demand
pub mod TakingBack
