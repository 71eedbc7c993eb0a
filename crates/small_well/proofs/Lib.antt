pub mod Checks
pub mod Forced
pub mod Searches
pub mod SmallWell
