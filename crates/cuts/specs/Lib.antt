-- What the calls on cuts answer and leave behind.
pub mod Outcomes
pub mod Listing
pub mod Gathering
pub mod Ranges
