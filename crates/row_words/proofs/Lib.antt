pub mod Halving
pub mod Filling
