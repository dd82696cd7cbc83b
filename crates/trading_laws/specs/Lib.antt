pub mod Books
pub mod Turns
