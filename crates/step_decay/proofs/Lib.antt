-- The laws of steps 5 and 6; each function's proof stands in its own folder beside this file.
pub mod Laws
