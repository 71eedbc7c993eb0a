pub mod Rows
pub mod Cycles
pub mod Tells
