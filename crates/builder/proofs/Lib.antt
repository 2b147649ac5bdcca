-- The answers of a build and what it leaves, refusal by refusal.
pub mod Answers
