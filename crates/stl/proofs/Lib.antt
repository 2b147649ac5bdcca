-- Laws of STL files.
pub mod Laws
pub mod Answers
pub mod Written
pub mod Promises
pub mod Worked
