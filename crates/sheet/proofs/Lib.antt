-- The files of laws on run sheets: those that the reader's own proofs cite, and that every sheet read is good.
pub mod EntryLaws
pub mod MarkLaws
pub mod Parts
pub mod Good
