pub mod Once
pub mod LastNumbers
pub mod Steps
pub mod Parted
pub mod NewNodes
