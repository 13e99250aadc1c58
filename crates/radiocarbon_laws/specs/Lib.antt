pub mod Along
pub mod Without
pub mod Calls
pub mod Fields
pub mod Lists
pub mod Spins
pub mod CarbonAlone
pub mod Bounds
