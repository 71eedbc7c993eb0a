pub mod Matrix
pub mod Laws
