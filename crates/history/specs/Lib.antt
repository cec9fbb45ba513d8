pub mod Coverings
pub mod Verdicts
pub mod Calls
pub mod History
pub mod Tiles
pub mod Starts
