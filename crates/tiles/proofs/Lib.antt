-- Triangles one behind the other (Laws), which they are of a cube (Cubes), and of all that are visited (Meaning).
pub mod Laws
pub mod Cubes
pub mod Meaning
