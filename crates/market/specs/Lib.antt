pub mod Rungs
pub mod Any
pub mod Quotes
pub mod Packing
pub mod Spacings
