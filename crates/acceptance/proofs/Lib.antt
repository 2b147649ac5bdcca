-- Theorems of acceptance.
pub mod Exact
pub mod Built
