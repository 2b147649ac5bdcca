-- What the contracts cite. Read `Stl`, over `Steps` and `Facets` of crate `facets`.
pub mod Stl
pub mod Within
pub mod Told
