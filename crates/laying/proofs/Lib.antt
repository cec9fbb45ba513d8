pub mod Leaves
pub mod Orders
pub mod Pieces
