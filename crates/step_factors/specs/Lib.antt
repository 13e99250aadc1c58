pub mod TemperatureTable
pub mod ClayTable
pub mod Factors
