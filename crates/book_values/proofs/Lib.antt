pub mod Reading
pub mod Texts
pub mod Minus
pub mod Laws
