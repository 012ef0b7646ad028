-- What the contracts of the audit's functions cite beside the definitions of `scheme`.
pub mod Last
