-- What the crate's contracts cite beside the definitions of the crates below.
pub mod Held
