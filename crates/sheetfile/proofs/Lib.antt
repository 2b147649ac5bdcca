-- Laws of sheet files.
pub mod Stored
pub mod Answers
pub mod Written
pub mod Rewritten
pub mod RoundTrips
