-- The words of edges with a vertex by their bits (KindBits), the cubes around an anchor (KindEdges), the edges of the lattice (KindRows),
-- how many there are (KindCounts, Vertices), those of one anchor (Anchors); triangles of a row by the words of its corners (Triangles), and
-- those of the lattice's cubes (TriangleRows).
pub mod KindBits
pub mod KindEdges
pub mod KindRows
pub mod KindCounts
pub mod Vertices
pub mod Anchors
pub mod Triangles
pub mod TriangleRows
