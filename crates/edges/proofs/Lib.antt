pub mod Series
pub mod Steps
pub mod Monitor
pub mod Books
pub mod Readings
pub mod Table
