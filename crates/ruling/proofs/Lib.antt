-- Antiscenarios of a sheet's text.
pub mod InMemory
pub mod Ruling
pub mod DemandThree
