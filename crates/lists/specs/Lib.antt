-- What the contracts cite.
pub mod Lists
pub mod Bytes
pub mod Reach
