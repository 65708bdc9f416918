pub mod Masks
pub mod Calls
pub mod Phases
pub mod Events
pub mod Steps
pub mod Acts
