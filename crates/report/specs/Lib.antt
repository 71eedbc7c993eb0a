pub mod Refusing
pub mod Told
pub mod Reports
