-- What the reader and the writer of frames do, as functions on values: Frames; and what the records mean in the rules' words: View.
pub mod Frames
pub mod View
pub mod Items
pub mod Choosing
