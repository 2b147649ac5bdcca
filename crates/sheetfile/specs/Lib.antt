-- What the contracts cite.
pub mod Taken
pub mod Trips
