-- Laws of counts, places and numbers that the code needs.
pub mod Laws
