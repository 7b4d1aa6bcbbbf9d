-- Laws that the proofs of this crate's functions cite.
pub mod Laws
pub mod Unique
