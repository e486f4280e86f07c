-- The files of definitions of the fault terms: `Terms` is document 01's, `Search` serves the code.
pub mod Terms
pub mod Search
