pub mod PartRises
