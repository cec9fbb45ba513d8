pub mod Frame
pub mod Faults
pub mod Film
pub mod Packed
pub mod Made
