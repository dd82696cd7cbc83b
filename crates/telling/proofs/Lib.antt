pub mod Steps
pub mod Choosing
pub mod Cuts
