pub mod Axes
pub mod Painted
pub mod Panes
