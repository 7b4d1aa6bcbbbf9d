-- The theorems about several calls, and the laws that they rest on.
pub mod Rising
pub mod Going
pub mod Gathered
pub mod Stopping
pub mod Prefix
pub mod Theorems
