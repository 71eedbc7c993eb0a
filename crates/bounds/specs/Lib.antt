pub mod Scopes
pub mod Small
