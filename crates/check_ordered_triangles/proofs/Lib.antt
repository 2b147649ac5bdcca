-- Laws of rows of triangles.
pub mod Tiles
