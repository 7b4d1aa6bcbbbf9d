-- Rules 37 to 45: texts that are easy to misread, and a text written by calls.
pub mod Cases
pub mod Calls
