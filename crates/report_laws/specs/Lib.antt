-- The files that state the theorems on the page.
pub mod Back
pub mod Example
pub mod Pages
