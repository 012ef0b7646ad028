pub mod Lengths
pub mod Audited
pub mod LookedUp
