-- The files of definitions of text in a lent buffer.
pub mod Ascii
pub mod Decimal
pub mod Lent
