pub mod Refused
pub mod Located
pub mod Locked
pub mod Uncut
pub mod Gathered
