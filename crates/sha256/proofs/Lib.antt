-- The laws that more than one function's proof cites.
pub mod Blocks
