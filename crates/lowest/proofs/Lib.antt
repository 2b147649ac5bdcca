-- The search for the lowest crossed cube, row by row.
pub mod Search
