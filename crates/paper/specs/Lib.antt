-- Document 01 as definitions. Read them in this order.
pub mod Lattice
pub mod Tables
pub mod Sheet
pub mod Tests
pub mod Refused
pub mod Room
pub mod Build
pub mod File
pub mod Check
pub mod Within
