pub mod Numbers
pub mod Layers
