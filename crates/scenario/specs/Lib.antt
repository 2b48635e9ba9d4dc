-- What document 01's terms mean, in the order in which to read them beside it.
pub mod Links
pub mod Rows
pub mod Log
pub mod Denials
pub mod DenialsInOrder
pub mod Sheet
pub mod Fields
pub mod Walk
pub mod Search
pub mod Matchings
pub mod Reading
pub mod Clock
pub mod Before
pub mod Long
pub mod Renumber
