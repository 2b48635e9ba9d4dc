pub mod Memory
pub mod Row
