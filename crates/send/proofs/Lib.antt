pub mod Count
pub mod Room
pub mod Meaning
pub mod Ruled
pub mod Lay
