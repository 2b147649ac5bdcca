-- The pieces of a lattice and the answer of a search for them, and that answer by its number.
pub mod Pieces
pub mod Told
