pub mod Positions
pub mod Sizes
pub mod Stops
