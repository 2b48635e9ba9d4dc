pub mod Own
pub mod Building
pub mod Choice
