-- The laws of quotients rounded up and of their sums, what the least ratchet is, and that a plan has one answer.
pub mod Quotients
pub mod Sums
pub mod Search
pub mod Plans
