pub mod Search
pub mod Items
pub mod Means
pub mod Ruled
pub mod Determined
pub mod Kept
pub mod Tells
