-- What the contracts cite.
pub mod Ordered
