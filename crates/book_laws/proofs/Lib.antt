pub mod Rows
pub mod Size
pub mod RoundTrip
pub mod OnlySo
pub mod WholeList
pub mod Balance
pub mod January
pub mod Examples
