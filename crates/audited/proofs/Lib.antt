-- The laws that the functions' proofs cite.
pub mod Listing
pub mod Zero
