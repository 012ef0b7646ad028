-- What the contracts cite: the standard, whole, for all crates; what it says of its constants; and what the inner functions keep.
pub mod Fips
pub mod Constants
pub mod Rounds
