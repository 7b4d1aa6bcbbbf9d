-- No second answer satisfies a contract; the laws that the proofs cite are the model's.
pub mod Unique
