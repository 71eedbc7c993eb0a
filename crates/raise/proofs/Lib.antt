pub mod Raises
pub mod Spreads
pub mod Spares
pub mod Ends
