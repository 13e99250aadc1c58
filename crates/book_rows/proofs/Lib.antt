pub mod Laws
pub mod RowKinds
pub mod Found
