pub mod Register
pub mod Delivery
pub mod Logs
