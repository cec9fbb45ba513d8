pub mod Rows
pub mod Slots
pub mod Changed
pub mod Made
pub mod Held
