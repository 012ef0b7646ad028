-- What the crate's contracts cite besides the standard, which is `compression`'s: what a hash state stands for, and what the public call
-- answers.
pub mod State
pub mod Call
