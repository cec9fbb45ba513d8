pub mod Box
pub mod Flashes
pub mod Laws
