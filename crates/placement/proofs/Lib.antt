pub mod Order
pub mod Found
pub mod Following
pub mod Behind
pub mod Onward
pub mod Starting
