pub mod Records
mod Steps
pub mod Places
pub mod Plain
pub mod Lines
