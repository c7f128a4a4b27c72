pub mod First
pub mod Starts
