pub mod Samples
pub mod Worked
pub mod Kinds
pub mod Logs
