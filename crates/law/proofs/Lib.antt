pub mod Answers
pub mod Pins
pub mod Scans
pub mod Tables
pub mod Tellings
