-- The laws that the functions' proofs cite, here and in the crate above.
pub mod Facts
pub mod Places
pub mod Parts
pub mod Areas
pub mod Taking
