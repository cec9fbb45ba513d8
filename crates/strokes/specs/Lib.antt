pub mod Strokes
pub mod Arcs
pub mod Laws
