pub mod Outcome
pub mod Sums
pub mod Looking
pub mod Reading
pub mod Says
pub mod Few
