pub mod Reading
pub mod Antecedent
