-- The files of laws that the proofs of `run` cite.
pub mod Gathering
pub mod Running
pub mod Reading
pub mod Story
pub mod Fits
