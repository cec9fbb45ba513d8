pub mod All
pub mod Caps
pub mod Parts
pub mod Turns
