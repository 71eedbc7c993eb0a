pub mod Bounds
pub mod Group
pub mod Integers
pub mod Laws
pub mod Least
pub mod Parts
pub mod Plain
pub mod Strict
