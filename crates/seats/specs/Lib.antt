-- The files of definitions of sets of seats.
pub mod Sets
pub mod Joined
