-- SameRule states the theorem over bytes; the others are on the way there.
-- Lists and numbers.
pub mod Tables
pub mod Counting
-- The rearranged sheet: its denials and patterns, verdicts and matchings.
pub mod Denials
pub mod Patterns
pub mod Verdicts
pub mod Matched
-- Its text.
pub mod Sections
pub mod Valid
-- The whole, and an example.
pub mod SameRule
pub mod Examples
