pub mod Putting
pub mod Rows
pub mod Writing
pub mod Reading
