pub mod Passing
pub mod Books
pub mod Rests
pub mod Shares
pub mod Idle
