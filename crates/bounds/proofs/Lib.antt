pub mod Limits
pub mod Firsts
