-- Rule 46, the question.
pub mod Sets
pub mod Ask
pub mod Cases
