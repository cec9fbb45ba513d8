pub mod Clearing
pub mod Records
pub mod Steps
