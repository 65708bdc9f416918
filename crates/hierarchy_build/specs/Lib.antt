pub mod Children
pub mod Chunked
pub mod Links
pub mod Built
