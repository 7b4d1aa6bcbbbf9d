-- No second outcome satisfies a contract of this crate.
pub mod Unique
