pub mod Gathered
pub mod Layering
