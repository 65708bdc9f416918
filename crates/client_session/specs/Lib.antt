pub mod Feeds
pub mod Finding
pub mod Buffers
pub mod Sessions
pub mod Giving
