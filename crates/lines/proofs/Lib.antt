-- Laws of the definitions that the proofs of this crate's functions cite, and the way back from what is written.
pub mod Decimals
pub mod Parts
pub mod Entries
pub mod Unique
