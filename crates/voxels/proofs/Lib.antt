pub mod Bounds
pub mod Indices
pub mod Blocks
pub mod Updates
pub mod WorkPages
