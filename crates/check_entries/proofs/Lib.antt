-- Laws of records by the first end.
pub mod Laws
pub mod Vertices
