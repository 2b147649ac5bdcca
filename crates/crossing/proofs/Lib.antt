-- Laws of crossings and positions.
pub mod Coordinates
pub mod Records
pub mod Rounding
pub mod Values
