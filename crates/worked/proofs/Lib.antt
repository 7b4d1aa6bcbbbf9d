-- That the table holds.
pub mod Reports
