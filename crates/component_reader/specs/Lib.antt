pub mod Among
pub mod Taking
pub mod Crossing
pub mod Laws
