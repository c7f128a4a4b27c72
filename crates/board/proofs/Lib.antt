pub mod Laws
pub mod Ways
pub mod Ruled
pub mod Tells
