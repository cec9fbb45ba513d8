pub mod Boxes
pub mod LawsOfFlashes
