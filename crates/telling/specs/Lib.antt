pub mod Fields
pub mod Paragraphs
pub mod Tellings
