pub mod Scans
pub mod Words
pub mod Logs
