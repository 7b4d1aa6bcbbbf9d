-- Laws of the model that the proofs of this crate's functions cite.
pub mod Laws
pub mod Verdicts
pub mod Ready
pub mod Outcomes
pub mod Unique
pub mod Theorems
pub mod Replay
