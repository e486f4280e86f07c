-- The files of laws of a seat's turn.
pub mod GoneLaws
pub mod TurnLaws
pub mod CalmLaws
