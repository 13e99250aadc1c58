-- The root of the definitions: step 3 of document 01.
pub mod Water
