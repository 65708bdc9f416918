pub mod Machine
pub mod Invariant
pub mod Play
pub mod Laws
pub mod Worked
