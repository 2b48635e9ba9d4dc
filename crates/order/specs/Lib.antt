pub mod Leading
pub mod Ending
