-- What the contract of the search past test 3 cites.
pub mod Past
