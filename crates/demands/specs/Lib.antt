-- The words of the theorems about several calls on cuts.
pub mod Calls
