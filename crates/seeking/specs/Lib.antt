-- What a lookup says; then what the contracts of the walk cite.
pub mod Lookup
pub mod Held
