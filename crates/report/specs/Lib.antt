-- The files of definitions of the printed page: `Promise` is what `print` promises.
pub mod Inside
pub mod Page
pub mod Promise
