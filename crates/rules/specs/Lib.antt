-- What the rules may assume of the bytes that they read.
pub mod Reading
