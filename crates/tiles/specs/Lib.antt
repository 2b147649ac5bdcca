-- What the contracts cite.
pub mod Tiles
