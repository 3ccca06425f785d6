pub mod FullLaws
