-- The files that prove demand 2 of a sheet's run.
pub mod Refused
pub mod Runs
