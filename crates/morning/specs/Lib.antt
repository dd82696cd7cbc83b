pub mod Tops
pub mod Mornings
pub mod Words
pub mod Answers
