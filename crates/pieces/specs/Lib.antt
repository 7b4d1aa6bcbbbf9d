-- Rules 37 to 39: the bytes that are written, and the lines that are put together from them.
pub mod Pieces
pub mod Filling
pub mod Lines
