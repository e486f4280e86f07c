-- The files of laws on the definitions of `limits`.
pub mod Refusals
