pub mod Rungs
pub mod Refusals
pub mod Day
