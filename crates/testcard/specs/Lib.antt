pub mod Card
pub mod Drawn
