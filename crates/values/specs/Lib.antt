pub mod Codes
pub mod Terms
pub mod Texts
