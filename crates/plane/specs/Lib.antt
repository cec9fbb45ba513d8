pub mod Plane
pub mod Points
pub mod Placed
pub mod Laws
