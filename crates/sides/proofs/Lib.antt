-- Laws of patterns (Laws), and of words of digits (Digits).
pub mod Digits
pub mod Laws
