pub mod Book
pub mod BookAsked
