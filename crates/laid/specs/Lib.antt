pub mod Puts
pub mod Laid
pub mod Covered
pub mod Frames
pub mod Stacks
pub mod Shifts
pub mod Laws
