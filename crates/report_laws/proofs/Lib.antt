-- The files that prove the theorems on the page.
pub mod Back
pub mod Example
pub mod Printable
pub mod Printed
pub mod Unique
pub mod Pages
