-- Laws of what the listing program reads and answers.
pub mod Passing
pub mod Answers
pub mod Fits
