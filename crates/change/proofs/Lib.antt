pub mod Changes
pub mod Tallies
