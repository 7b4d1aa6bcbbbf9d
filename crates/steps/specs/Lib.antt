pub mod Walk
pub mod Spans
pub mod Walked
