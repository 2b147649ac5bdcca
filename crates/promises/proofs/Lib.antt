-- The page.
pub mod Starting
pub mod Promises
