-- What the contracts cite.
pub mod Cut
