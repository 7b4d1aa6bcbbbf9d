pub mod Outcomes
pub mod Testing
pub mod Room
