pub mod InMemory
pub mod Fresh
pub mod Tells
