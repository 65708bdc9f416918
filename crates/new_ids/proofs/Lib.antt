pub mod NodeFacts
pub mod PairFacts
pub mod NodeAscent
