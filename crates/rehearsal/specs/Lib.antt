pub mod Between
pub mod Clients
pub mod Exact
pub mod History
pub mod Outcomes
pub mod Played
pub mod Printing
pub mod Served
