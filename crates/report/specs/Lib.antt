-- Rules 46 to 49: what the program prints.
pub mod Answers
pub mod Report
