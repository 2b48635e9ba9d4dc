pub mod Advancing
pub mod Walk
pub mod Sections
