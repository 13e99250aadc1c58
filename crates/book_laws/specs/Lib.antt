pub mod BookText
pub mod Balance
pub mod January
pub mod Numbers
