pub mod Bands
pub mod Rings
pub mod LawsOfStrokes
