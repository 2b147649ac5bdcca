-- Filling a row (Fill), laws of waiting rows (Laws), the ways of rows of sides (Ways).
pub mod Fill
pub mod Laws
pub mod Ways
