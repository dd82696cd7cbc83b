pub mod Money
pub mod Answers
