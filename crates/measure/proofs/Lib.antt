mod Saturated
pub mod Within
