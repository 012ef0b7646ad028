-- What the crate's contracts cite beside the definitions of `scheme` and `codec`.
pub mod Checked
pub mod Rules
