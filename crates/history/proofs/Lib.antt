pub mod Overlaying
pub mod Calling
pub mod Joining
pub mod Tiling
pub mod Running
pub mod Starting
