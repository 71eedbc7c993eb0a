pub mod Raising
pub mod Sparing
