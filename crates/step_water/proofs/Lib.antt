-- The root of the laws of the water step.
pub mod Signed
pub mod Laws
pub mod Dried
