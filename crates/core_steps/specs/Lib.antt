pub mod Ways
pub mod Places
pub mod Stepping
pub mod CoreSteps
pub mod Runs
pub mod Starts
pub mod Plays
