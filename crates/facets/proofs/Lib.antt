-- What the proofs cite.
pub mod Floats
pub mod Images
pub mod Facets
