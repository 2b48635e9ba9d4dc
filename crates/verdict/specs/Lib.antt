pub mod Check
pub mod Before
pub mod Unmoved
pub mod Demands
pub mod Long
pub mod Memory
pub mod Numbered
