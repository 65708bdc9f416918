pub mod Sources
pub mod Sinks
pub mod Kept
pub mod Places
