pub mod States
pub mod Rows
pub mod Calls
pub mod Entry
pub mod Runs
