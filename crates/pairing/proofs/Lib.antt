-- Demand 3, proved.
pub mod Arrows
pub mod Table
pub mod Edges
pub mod Sides
pub mod Whole
pub mod Outer
pub mod Sheets
pub mod Vertices
pub mod Names
pub mod Built
pub mod Turned
pub mod Files
pub mod Demand
