pub mod Holding
pub mod Turning
pub mod Steps
pub mod Meaning
pub mod Places
pub mod Films
pub mod Bytes
