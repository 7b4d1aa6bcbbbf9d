-- Document 01's own example of what `cutcheck` prints, and inputs easy to get wrong.
pub mod Reports
