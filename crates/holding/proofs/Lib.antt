-- What makes a file pass the last tests of a check.
pub mod Alike
pub mod Complete
pub mod Matches
pub mod Words
pub mod Ordered
