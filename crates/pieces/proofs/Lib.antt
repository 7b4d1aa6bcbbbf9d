-- Laws of the lines that are put, and of how long a line gets.
pub mod Growing
pub mod Lengths
pub mod Putting
pub mod Unique
