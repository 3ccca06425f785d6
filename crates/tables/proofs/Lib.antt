pub mod FullSets
