-- Laws of the definitions that the proofs of this crate's functions cite.
pub mod Counting
pub mod Pieces
pub mod Unique
