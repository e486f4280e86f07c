-- The files that prove demand 2, and demand 1 for a step.
pub mod Refused
pub mod Entries
pub mod Tally
pub mod Gone
pub mod Sum
pub mod Standing
pub mod Story
pub mod Paper
pub mod Marks
pub mod Empty
pub mod Whole
