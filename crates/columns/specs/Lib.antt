pub mod Number
pub mod Spell
pub mod Entry
pub mod Ink
