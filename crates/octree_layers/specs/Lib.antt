pub mod Places
pub mod Pairs
pub mod Numbers
pub mod Layers
