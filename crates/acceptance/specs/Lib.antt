-- What the theorems say.
pub mod Holding
