-- What the contracts cite.
pub mod Pattern
