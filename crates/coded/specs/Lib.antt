-- The register that the code is, and what a proof by computation opens.
pub mod Code
pub mod Computing
