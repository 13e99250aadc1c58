-- What steps 5 and 6 of document 01 give together.
pub mod Turnover
