pub mod Walk
pub mod Fits
pub mod Ways
pub mod Runs
pub mod Meaning
pub mod Promises
