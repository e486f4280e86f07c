-- The files of laws on the definitions of `lists`.
pub mod Counted
pub mod Tests
pub mod Any
pub mod Found
pub mod Each
pub mod Put
pub mod Chains
pub mod Kept
