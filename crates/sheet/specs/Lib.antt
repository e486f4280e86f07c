-- The files of definitions of run sheets, each resting on those above it: `Sheets` has what `read` promises.
pub mod Entries
pub mod Marks
pub mod Sheets
pub mod Good
pub mod Inside
