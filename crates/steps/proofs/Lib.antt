-- The files of laws of a step, which the theorems share.
pub mod Drawn
pub mod Seen
pub mod Taken
pub mod After
pub mod Reached
