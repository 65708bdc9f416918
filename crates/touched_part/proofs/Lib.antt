pub mod Gathering
pub mod EndPlaces
pub mod ChangedPlaces
pub mod Whole
