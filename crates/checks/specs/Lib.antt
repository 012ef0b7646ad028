-- What the crate's contracts cite beside the definitions of `scheme`, `layout` and `codec`.
pub mod First
