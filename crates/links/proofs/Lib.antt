pub mod Sets
pub mod Entering
pub mod Places
