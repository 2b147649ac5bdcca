-- What the contracts cite.
pub mod Dots
pub mod Slots
