pub mod Limit
pub mod Says
pub mod Numbered
