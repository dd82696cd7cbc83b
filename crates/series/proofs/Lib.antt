pub mod Sending
pub mod Quoted
pub mod Refusing
pub mod Coming
pub mod Entering
pub mod Following
pub mod Running
