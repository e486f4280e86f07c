-- The files of laws that the proofs of the line reader cite.
pub mod ByteLaws
pub mod NumberLaws
pub mod LineLaws
