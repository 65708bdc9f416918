pub mod Starts
pub mod Trials
