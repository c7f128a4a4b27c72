pub mod Ruled
pub mod Tells
