pub mod Nets
pub mod Servers
