pub mod Chain
pub mod Closed
pub mod Placed
pub mod Made
pub mod Laws
