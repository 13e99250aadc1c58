pub mod Series
pub mod Survival
pub mod Served
pub mod Ages
