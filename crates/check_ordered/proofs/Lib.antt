-- Laws of numbers compared one by one and of runs of them (Laws), and that a file in the sheet's own order passes (Meaning).
pub mod Laws
pub mod Meaning
