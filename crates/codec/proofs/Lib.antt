-- Laws of numbers as bytes, and of the lists that a loop over them makes.
pub mod Bytes
pub mod Signed
pub mod Runs
