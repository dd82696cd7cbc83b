pub mod Dumps
pub mod Agreeing
pub mod Sofar
