pub mod Mapped
pub mod Picks
pub mod Counts
pub mod Seats
pub mod Firsts
