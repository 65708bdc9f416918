pub mod Desk
pub mod Pins
pub mod Turns
