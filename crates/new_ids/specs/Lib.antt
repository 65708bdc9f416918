pub mod NewIds
