pub mod Judging
pub mod Decisions
pub mod Law
