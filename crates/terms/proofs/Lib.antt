-- The files of laws of the fault terms.
pub mod Found
