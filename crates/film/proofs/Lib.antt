pub mod Spans
pub mod Limiting
pub mod Packing
