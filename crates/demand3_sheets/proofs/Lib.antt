-- The files that prove demand 3 of a sheet's run.
pub mod Sheets
