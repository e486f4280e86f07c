-- The definitions of a run as a list of steps, which the theorems share.
pub mod Run
