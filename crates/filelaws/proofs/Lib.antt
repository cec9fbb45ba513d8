pub mod Answers
pub mod Rooms
pub mod Formats
pub mod Runs
pub mod Commands
pub mod Remarks
pub mod Longer
pub mod Cuts
