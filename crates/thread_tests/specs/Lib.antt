pub mod Samples
pub mod Ending
pub mod Turns
