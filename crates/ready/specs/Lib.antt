-- What the contracts cite.
pub mod Ready
