-- Laws of marks (Marks), of blocks, their parts and what is passed over (Parts), of blocks row by row (Boxes), of the block that is the
-- whole lattice (Whole), and of rows that are alike over a block (Alike).
pub mod Marks
pub mod Parts
pub mod Boxes
pub mod Whole
pub mod Alike
