-- The file of laws that the proof of `page` cites.
pub mod Texts
