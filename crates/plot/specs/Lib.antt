pub mod Requests
pub mod Reads
