pub mod Writing
pub mod Files
