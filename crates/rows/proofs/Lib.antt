-- Laws of mixed bits (Alike), of how side rows are made (Making), and of what they say of cubes and faces (Cubes).
pub mod Alike
pub mod Making
pub mod Cubes
