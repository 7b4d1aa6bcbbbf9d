-- What the programs that try the library share.
pub mod Draws
pub mod Counters
