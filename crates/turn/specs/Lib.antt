-- The files of definitions of a seat's turn, each resting on those above it.
pub mod Table
pub mod Turn
pub mod Calm
