pub mod Readable
pub mod Spreads
pub mod Laws
