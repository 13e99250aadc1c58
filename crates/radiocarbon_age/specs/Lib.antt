pub mod Age
