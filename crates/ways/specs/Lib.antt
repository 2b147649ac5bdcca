-- What the contracts cite.
pub mod Along
pub mod Plan
pub mod Flow
pub mod Ways
