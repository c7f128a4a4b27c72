pub mod Expected
pub mod Computing
