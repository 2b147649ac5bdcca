-- Laws of vertices one behind the other (Laws), of the anchors of a row (Rows), of numbered slots (Slots), and that the edges are the
-- sheet's (Meaning).
pub mod Laws
pub mod Rows
pub mod Slots
pub mod Meaning
