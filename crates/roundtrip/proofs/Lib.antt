-- The theorems on reading and writing, and the table of cases.
pub mod Back
pub mod Again
pub mod Calls
pub mod Theorems
pub mod Cases
