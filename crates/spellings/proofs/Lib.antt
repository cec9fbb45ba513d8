pub mod Every
pub mod Options
pub mod Spelt
pub mod Tiles
