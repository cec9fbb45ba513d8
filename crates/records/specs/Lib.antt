pub mod Records
pub mod Weights
