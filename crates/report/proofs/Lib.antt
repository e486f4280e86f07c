-- The files of laws that the proofs of `page` cite.
pub mod LineLaws
pub mod PageLaws
pub mod Writing
