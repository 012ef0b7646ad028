-- The laws that the functions' proofs cite.
pub mod Ends
pub mod Standing
pub mod Checked
