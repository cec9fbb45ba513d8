pub mod Middles
pub mod Steps
