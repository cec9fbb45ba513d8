pub mod Comparing
pub mod Windows
