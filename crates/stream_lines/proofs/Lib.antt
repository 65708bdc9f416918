pub mod ReadSoFar
