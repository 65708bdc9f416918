pub mod Desks
pub mod Seats
