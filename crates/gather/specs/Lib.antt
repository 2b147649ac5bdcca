-- What the pass holds when it comes to a cube.
pub mod Gathering
