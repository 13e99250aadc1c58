pub mod Modern
