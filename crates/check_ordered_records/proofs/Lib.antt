-- Laws of rows of vertices (Dots), of records that are a row's (Entered), and of a row's words and tables (RowEdges).
pub mod Dots
pub mod Entered
pub mod RowEdges
