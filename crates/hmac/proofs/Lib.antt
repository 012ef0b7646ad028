-- The laws that the functions' proofs cite.
pub mod Keys
pub mod Cuts
