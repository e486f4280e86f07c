-- The files that state demand 3 and how tight it is.
pub mod Faults
pub mod Demand
pub mod Verdict
pub mod Runs
pub mod Example
pub mod Tight
pub mod Late
