-- The files of the table of reference runs.
pub mod Reply
pub mod Runs
