-- The files that state demand 2 of a sheet's run.
pub mod Room
