-- The files that prove the theorems on every run.
pub mod Verdicts
pub mod Unique
pub mod Examples
