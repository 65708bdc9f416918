pub mod Joining
pub mod Chains
pub mod Spreading
