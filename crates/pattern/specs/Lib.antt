pub mod Meeting
pub mod Placing
