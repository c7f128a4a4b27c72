pub mod Slots
pub mod Numbers
pub mod Changes
pub mod Judged
pub mod Means
pub mod Determined
