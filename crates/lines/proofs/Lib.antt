pub mod Parts
pub mod Digits
pub mod Example
pub mod Worth
pub mod Short
pub mod Ruled
