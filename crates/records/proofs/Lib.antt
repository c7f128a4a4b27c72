pub mod Records
pub mod Front
pub mod Ruled
