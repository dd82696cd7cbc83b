pub mod Answering
pub mod Onward
pub mod Whole
