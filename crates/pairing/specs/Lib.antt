-- What demand 3 says.
pub mod Pairing
pub mod Visitable
