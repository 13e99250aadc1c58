-- What steps 4 and 5 of document 01 give the four pools.
pub mod Rates
pub mod Decay
