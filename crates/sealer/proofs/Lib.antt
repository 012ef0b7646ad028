-- The laws that the functions' proofs cite.
pub mod Opened
pub mod Answered
