-- The pass, cube by cube.
pub mod Passes
