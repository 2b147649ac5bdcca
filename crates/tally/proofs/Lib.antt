-- Laws of totals (Totals), of rows without a cube (Empty), and what the totals of all rows are in document 01 (Sheets).
pub mod Totals
pub mod Empty
pub mod Sheets
