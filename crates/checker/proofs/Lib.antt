-- The answer of a check, and what it leaves, from the answers of its parts.
pub mod Whole
