-- The files of laws that the proofs of the writers cite.
pub mod Decimals
pub mod Writing
pub mod Written
pub mod NumberRules
