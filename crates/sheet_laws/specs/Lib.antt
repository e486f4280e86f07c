-- The files that state theorems on the reader.
pub mod Length
pub mod Sight
pub mod EmptyReader
