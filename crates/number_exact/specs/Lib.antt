pub mod Fraction
pub mod Exponential
