-- What the crate's contracts cite: the standard, what a keyed state stands for, and what the public call answers.
pub mod Rfc2104
pub mod Keyed
pub mod Call
