pub mod Graph
pub mod Tree
pub mod Change
pub mod Buffer
pub mod Theorems
pub mod Weights
pub mod Settling
