pub mod Orders
pub mod Covering
pub mod Climbs
pub mod Passing
