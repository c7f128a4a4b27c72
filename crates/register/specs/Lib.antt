pub mod Given
pub mod Memory
pub mod Promised
pub mod Fresh
