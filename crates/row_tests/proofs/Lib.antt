pub mod SampleImages
pub mod KindFacts
pub mod Images
pub mod Axes
pub mod Emptied
