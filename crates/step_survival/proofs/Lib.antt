pub mod Count
pub mod Series
pub mod Steps
pub mod Laws
pub mod Ages
