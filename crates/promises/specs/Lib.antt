-- What the promises cite.
pub mod Starting
