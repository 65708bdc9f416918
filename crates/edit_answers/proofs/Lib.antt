pub mod Answering
pub mod Bits
