pub mod AtPrefix
pub mod BaseEdges
