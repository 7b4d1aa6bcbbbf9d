-- Laws of the lines of an answer and of their place in an output, and that no second outcome satisfies the contract.
pub mod Placing
pub mod Lines
pub mod Unique
