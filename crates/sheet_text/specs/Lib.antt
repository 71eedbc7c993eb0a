pub mod Naming
pub mod Tying
pub mod Format
pub mod Reading
pub mod Calls
