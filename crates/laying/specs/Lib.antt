pub mod Lays
pub mod Steps
