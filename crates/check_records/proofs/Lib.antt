-- Laws of the records.
pub mod Numbers
pub mod Laws
pub mod Meaning
pub mod Slots
