-- What a row says by its kind, the places of points, the table of links, and the events that sets have in common.
pub mod Parts
pub mod Places
pub mod Entering
pub mod Events
pub mod Telling
pub mod Some
pub mod Whole
