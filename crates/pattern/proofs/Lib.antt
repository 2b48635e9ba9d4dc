pub mod Meeting
pub mod Points
pub mod Rows
pub mod Placing
pub mod Matching
