-- Laws of words by their bits (Bits), of how many they have (Counts), and of words as sets of places (Places).
pub mod Bits
pub mod Counts
pub mod Places
