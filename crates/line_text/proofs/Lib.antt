pub mod Numerals
pub mod Cuts
pub mod Refusals
pub mod Alike
pub mod Inked
