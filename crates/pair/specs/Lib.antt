pub mod Pair
pub mod Antecedent
