pub mod Order
pub mod SameRule
