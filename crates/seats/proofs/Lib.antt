-- The files of laws on sets of seats, which the functions' own proofs cite.
pub mod Digits
pub mod Machine
pub mod Sets
pub mod Joined
