-- The laws that the functions' proofs cite.
pub mod Searching
pub mod Exactly
