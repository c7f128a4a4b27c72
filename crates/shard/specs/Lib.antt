pub mod Model
pub mod View
pub mod Computing
