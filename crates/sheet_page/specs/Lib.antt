-- The files of definitions of a sheet's page: `Promise` is what `page` promises.
pub mod Promise
