pub mod Parity
pub mod Walk
pub mod Enclosed
pub mod LawsOfContours
