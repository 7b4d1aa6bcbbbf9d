pub mod Counting
pub mod Finding
pub mod Showing
