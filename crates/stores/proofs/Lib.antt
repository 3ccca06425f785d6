pub mod SetAnswers
pub mod Sweeps
pub mod EmptyRuns
pub mod Sweeping
pub mod GridCells
pub mod MaskFills
