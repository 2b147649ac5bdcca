-- Laws of the table of patterns.
pub mod Laws
