-- The files that prove the theorems on the reader.
pub mod Unique
pub mod Length
pub mod Readers
pub mod Sight
pub mod Refusals
pub mod EmptyReader
