-- The answers of the tests (Answers), that a triangle's place is the only one (Spots), and that the work slices tell what the sheet tells
-- (Verdicts).
pub mod Answers
pub mod Spots
pub mod Verdicts
