pub mod Levels
pub mod Laws
pub mod Building
pub mod Remaking
pub mod Worked
