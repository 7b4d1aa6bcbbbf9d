-- What must be believed: the rules of docs/RULES.md as short definitions that compute, by topic and from the ground up.
-- Each says by number which rules it states.
-- A tablet's number i counts from 1. The lists of eight entries (clocks, tallies, cuts) have tablet 1 first, so tablet i
-- stands in column j = i - 1; the definitions speak of the column j, and of an event by j and its number k, from 1.
pub mod Lists
pub mod Numbers
pub mod Refusals
pub mod Clocks
pub mod Follow
pub mod Store
pub mod Cuts
pub mod Ranges
pub mod Agree
pub mod Lexical
pub mod Happened
pub mod Questions
pub mod Step
pub mod Cases
