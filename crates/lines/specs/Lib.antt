pub mod Text
pub mod Area
