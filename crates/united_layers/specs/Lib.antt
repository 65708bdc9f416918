pub mod Representing
pub mod Jointed
pub mod Layering
