pub mod Rows
pub mod RoundTrip
pub mod OnlySo
pub mod Frost
