-- Rules 44 and 45: what writing answers and leaves behind.
pub mod Writing
