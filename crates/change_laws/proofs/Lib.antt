pub mod NearEnds
pub mod Ancestry
pub mod Visiting
pub mod Ending
