-- Laws that the proofs of this crate's functions cite.
pub mod Traces
pub mod Answers
pub mod Members
pub mod Listings
pub mod Gathering
pub mod Unique
