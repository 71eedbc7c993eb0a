mod Making
pub mod Holding
mod Replaying
