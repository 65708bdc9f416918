pub mod Grammar
pub mod Command
pub mod Found
pub mod Spelled
pub mod Laws
