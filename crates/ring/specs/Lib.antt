-- The files of definitions of the engine, each resting on those above it: `Promise` is what the public
-- functions promise.
pub mod Ring
pub mod Step
pub mod Refusals
pub mod Inside
pub mod Promise
pub mod Valid
