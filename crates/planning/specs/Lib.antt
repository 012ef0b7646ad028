-- How many chunks counts of entries take, which plans are refused, and the least ratchet that lasts.
pub mod Chunks
pub mod Ratchet
