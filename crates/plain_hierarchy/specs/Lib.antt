pub mod Growth
pub mod Ingest
pub mod Laws
