-- The number of each refusal, and the answer that a call's result shows.
pub mod Number
