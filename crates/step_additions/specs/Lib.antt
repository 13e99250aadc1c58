-- What step 6 of document 01 gives.
pub mod Kinds
pub mod Additions
