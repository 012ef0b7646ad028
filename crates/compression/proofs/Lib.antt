-- The laws that more than one function's proof cites, here and in the crates above.
pub mod Bits
pub mod Constants
pub mod Hashed
pub mod Rounds
