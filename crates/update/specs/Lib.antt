pub mod Reading
pub mod Tabled
pub mod Relaxing
pub mod Nearest
pub mod Lowering
pub mod Lowers
pub mod Restoring
