pub mod Faults
pub mod Books
pub mod Reading
pub mod Answers
pub mod Slots
pub mod Taken
pub mod Turns
