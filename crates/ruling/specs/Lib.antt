pub mod Ruling
pub mod Demands
