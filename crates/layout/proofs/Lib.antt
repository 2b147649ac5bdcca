-- Laws of a file's tests.
pub mod Flags
pub mod Trailer
pub mod Passing
pub mod Found
