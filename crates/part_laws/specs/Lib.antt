pub mod Telling
pub mod Touched
