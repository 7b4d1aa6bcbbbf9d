-- Laws that the proofs of this crate's functions cite, and of walking a range for the crates above.
pub mod Entries
pub mod Raise
pub mod Below
pub mod Bounding
pub mod Walks
pub mod Unique
