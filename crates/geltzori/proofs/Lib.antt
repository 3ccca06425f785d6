pub mod Filing
pub mod Rows
