-- The answers of a search and what it leaves, refusal by refusal.
pub mod Answers
