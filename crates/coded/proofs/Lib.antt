-- Demand 3 of the code, and what it comes from: Keeps, the code keeps its promises. Trace: the story of crate safety run by the code, computed.
pub mod Keeps
pub mod Demand3
pub mod Trace
