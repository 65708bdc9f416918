pub mod Records
pub mod Faults
pub mod Tables
pub mod Supervoxels
pub mod Edges
pub mod Bases
pub mod Firsts
pub mod Laws
