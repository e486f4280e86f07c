-- The files of laws that the engine's own proofs cite, and the theorem that no two results keep one promise.
pub mod Checked
pub mod Drawing
pub mod Judging
pub mod Records
pub mod Refusing
pub mod Starting
pub mod Unique
