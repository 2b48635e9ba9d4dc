pub mod Numbers
pub mod Held
pub mod Write
pub mod Plain
pub mod Judge
pub mod Numbered
