-- The files that state demand 3 of a sheet's run.
pub mod Sheets
