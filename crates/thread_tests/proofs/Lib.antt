pub mod SampleLogs
pub mod Gathering
pub mod Writing
