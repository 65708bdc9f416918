pub mod Asked
pub mod Lasting
