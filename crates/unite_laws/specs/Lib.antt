pub mod Uniting
pub mod Laws
pub mod Worked
