pub mod Searches
pub mod Weights
pub mod Nets
pub mod Adding
pub mod Reached
pub mod Accepting
pub mod Faults
