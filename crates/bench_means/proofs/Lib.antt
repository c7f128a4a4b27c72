-- What the rules say of the bench program is what its functions give. Example: 01's example and the readings of its section, computed. Starts, Turns: the
-- register means the park, at the start and after a record. Parts: bytes as records. Deliveries: what a delivery means, and where it stops. Pieces: however
-- the input is cut. Areas, Written: what the program writes.
pub mod Example
pub mod Starts
pub mod Turns
pub mod Parts
pub mod Deliveries
pub mod Pieces
pub mod Areas
pub mod Written
