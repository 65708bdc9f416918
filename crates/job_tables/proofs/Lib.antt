pub mod Later
pub mod MadeLemmas
pub mod Numbers
pub mod TextLemmas
