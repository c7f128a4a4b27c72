pub mod Loops
pub mod Meaning
pub mod Ruled
pub mod Determined
