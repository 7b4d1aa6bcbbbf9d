-- Rules 48 and 49: the lines that the program prints, and how they stand in an output.
pub mod Printing
pub mod Outputs
