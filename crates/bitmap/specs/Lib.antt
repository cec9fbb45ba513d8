pub mod Pixels
pub mod Made
