pub mod Level
pub mod Sample
pub mod Convert
pub mod Within
