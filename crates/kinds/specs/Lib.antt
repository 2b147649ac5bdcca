-- What the contracts cite.
pub mod Kinds
pub mod Triangles
