-- Laws of a cube's edges and triangles by its pattern.
pub mod Tables
pub mod Laws
