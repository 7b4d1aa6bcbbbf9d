-- Laws that the proofs of this crate's functions cite.
pub mod Counts
pub mod Firsts
pub mod Progress
pub mod Unique
