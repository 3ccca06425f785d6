pub mod Words
pub mod Pictures
pub mod Filing
