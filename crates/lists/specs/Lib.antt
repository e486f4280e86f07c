-- The files of definitions of lists that a count builds.
pub mod Counted
pub mod Put
pub mod Kept
