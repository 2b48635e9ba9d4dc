-- The tests are exact, and rows that they call impossible match no log; examples.
pub mod Tests
pub mod Exact
pub mod Never
pub mod Examples
