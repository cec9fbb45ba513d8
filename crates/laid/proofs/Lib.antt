pub mod Entering
pub mod Fronts
pub mod Nothing
pub mod Opened
pub mod Placings
pub mod Slices
pub mod Walks
