-- Laws of the triangles.
pub mod Words
pub mod Laws
pub mod Meaning
