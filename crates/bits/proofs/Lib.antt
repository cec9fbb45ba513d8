pub mod Masks
pub mod Fills
pub mod Rows
