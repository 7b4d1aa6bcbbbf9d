-- Laws of the definitions that the proofs of this crate's functions cite.
pub mod Places
pub mod Turns
pub mod Steps
pub mod Points
pub mod Opening
pub mod Unique
