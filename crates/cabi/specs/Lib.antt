-- What the contracts cite.
pub mod Named
