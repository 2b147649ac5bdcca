-- Pieces by steps (Meeting), what a plain scan lists (Scanning), what a search promises (Demand), and searches worked by hand (Worked).
pub mod Meeting
pub mod Scanning
pub mod Demand
pub mod Worked
