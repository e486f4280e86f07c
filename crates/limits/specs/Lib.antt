-- The files of definitions: the limits and the refusal numbers of document 01.
pub mod Limits
pub mod Refusals
