-- The laws that the functions' proofs cite, here and in the crates above.
pub mod Parts
pub mod ByNumber
pub mod LittleEndian
pub mod OneContract
