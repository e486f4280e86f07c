-- The files that state demand 2, and demand 1 for a step.
pub mod Refused
pub mod Records
pub mod Story
pub mod Paper
pub mod Marks
pub mod Empty
