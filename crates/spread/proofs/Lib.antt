-- The invariant of a flood along any plan and what it leaves (Going, Finish); what that says of the visited cubes where the plan's gates
-- and doors mean the lattice's faces (Visiting); along the plan of rows of sides, the turns (Turns), and the faces that its gates and
-- doors mean (Joining).
pub mod Going
pub mod Finish
pub mod Visiting
pub mod Turns
pub mod Joining
