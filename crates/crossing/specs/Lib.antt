-- What the contracts cite.
pub mod Vertex
pub mod Rounding
