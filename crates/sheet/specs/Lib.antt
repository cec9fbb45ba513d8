pub mod Sheet
pub mod Faults
pub mod Made
pub mod Whole
pub mod Reading
