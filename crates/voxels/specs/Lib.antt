pub mod Bounded
pub mod Space
pub mod Cells
pub mod Cubes
pub mod Refusals
pub mod Pages
pub mod Texts
