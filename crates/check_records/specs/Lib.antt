-- What the contracts cite.
pub mod Records
