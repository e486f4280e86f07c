-- The files of definitions of what stands on a line of a sheet, each resting on those above it.
pub mod Found
pub mod Bytes
pub mod Lines
pub mod Pieces
pub mod Classes
