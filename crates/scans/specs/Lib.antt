pub mod Texts
pub mod Lines
pub mod Steps
pub mod Sweeps
pub mod Scans
pub mod LineMarks
pub mod Alike
