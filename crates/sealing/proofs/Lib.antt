-- The laws that the functions' proofs cite.
pub mod Held
pub mod Fillers
