-- Rules 37, 39 and 40: numbers, lists, lines and keys, as definitions that compute.
pub mod Numbers
pub mod Find
pub mod Lists
