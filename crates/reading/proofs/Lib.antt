-- The laws that the functions' proofs cite, here and in the crates above.
pub mod Readings
pub mod Pieces
