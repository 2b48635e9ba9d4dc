pub mod Showing
pub mod Numbered
