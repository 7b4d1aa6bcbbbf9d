-- What follows from the contracts of this crate.
pub mod Unique
