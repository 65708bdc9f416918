pub mod Places
pub mod Spreads
