-- The theorems: Final states them of every sheet and log that are read; the others are on the way there.
-- Tests and lists; rows, one consequent, all consequents.
pub mod Base
pub mod Rules
pub mod Section
pub mod Points
pub mod Links
pub mod Far
pub mod Product
pub mod Glue
pub mod Place
-- Demand 3 of sound sheets, with short denials and with long ones, the check's rows at fault, and what it may pass over.
pub mod Agreement
pub mod Alike
pub mod Long
pub mod Extension
pub mod Faults
pub mod Frame
pub mod Demand
pub mod Least
pub mod Matchings
pub mod Whole
-- Sheets and logs that are read.
pub mod Halves
pub mod Logs
pub mod Sets
pub mod Bits
pub mod Reading
pub mod Renumber
pub mod Final
-- What stands beside: what the clock drops, denials and their far ends, patterns, at most one extension, a search's steps, rows and numbers, old sheets, and the paper's examples.
pub mod Clock
pub mod Unmoved
pub mod Closure
pub mod Taken
pub mod InOrder
pub mod Patterns
pub mod Shorter
pub mod Unique
pub mod Prefix
pub mod Numbers
pub mod Before
pub mod Examples
