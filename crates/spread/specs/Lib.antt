-- What the contracts cite.
pub mod Flooded
