pub mod Runs
pub mod Fills
pub mod Bookings
pub mod Replies
