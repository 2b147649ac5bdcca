-- What the contracts cite.
pub mod Output
