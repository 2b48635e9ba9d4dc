pub mod Entering
pub mod Ending
pub mod Places
