-- The files of definitions of a sheet's run: `Run` has what `run` promises.
pub mod Outcome
pub mod Marks
pub mod Run
pub mod Inside
pub mod Along
