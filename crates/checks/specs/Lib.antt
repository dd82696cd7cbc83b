pub mod Fields
pub mod Checked
pub mod Law
