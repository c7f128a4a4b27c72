pub mod Area
pub mod Runs
pub mod Turns
pub mod Logs
pub mod Ruled
pub mod Eight
