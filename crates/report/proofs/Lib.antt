-- Laws of what is printed, and what else is proved of a report.
pub mod Showing
pub mod Sums
pub mod Outcomes
pub mod Asking
pub mod Unique
