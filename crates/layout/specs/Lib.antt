-- What the crate's contracts cite beside the definitions of `scheme`.
pub mod Header
pub mod Places
pub mod Kinds
