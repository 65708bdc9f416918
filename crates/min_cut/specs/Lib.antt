pub mod Moves
pub mod Tree
pub mod Glue
pub mod Gluing
pub mod Arcs
pub mod Queue
pub mod Flowing
pub mod Steps
