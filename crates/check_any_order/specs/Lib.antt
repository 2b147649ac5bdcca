-- What the contracts cite.
pub mod Checked
