pub mod Numbers
pub mod Log
pub mod Text
pub mod Valid
pub mod Numbered
pub mod Held
