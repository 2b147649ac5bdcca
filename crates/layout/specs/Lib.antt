-- What the contracts cite.
pub mod Laid
