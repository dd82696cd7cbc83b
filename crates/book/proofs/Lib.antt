pub mod Hits
pub mod Sharing
pub mod Room
pub mod Turning
pub mod Idling
pub mod Sweep
