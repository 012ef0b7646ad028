-- The laws that the functions' proofs cite, here and in the crates above.
pub mod Fitting
pub mod Allowed
pub mod Answered
