pub mod Readings
pub mod Opens
pub mod Starts
pub mod Openings
pub mod Changes
pub mod Ties
pub mod Settling
pub mod Trials
