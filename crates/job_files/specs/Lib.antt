pub mod Clients
pub mod Fronts
pub mod Kept
pub mod Lines
pub mod Places
