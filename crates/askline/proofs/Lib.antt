-- Laws of the ask line's definitions that the proofs of this crate's functions cite, and what else is proved of it.
pub mod Naming
pub mod Inside
pub mod Unique
pub mod Cases
