pub mod Places
pub mod Away
pub mod Tables
pub mod Reach
