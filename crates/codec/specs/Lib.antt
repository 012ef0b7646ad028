-- What the crate's contracts cite beside the definitions of `scheme` and `layout`.
pub mod Header
pub mod Shape
pub mod Store
