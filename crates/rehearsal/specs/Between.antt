-- What a call finds and what it leaves, as one argument.

-- a state before a call and the one behind it
pub record Between (S : Type 0) : Type 0 where
  pub old : S
  pub new : S

-- the states of what a call borrows: of it as it was passed, and as it came back
abbrev pub states : {A S : Type 0} → (A → S) → A → A → Between S
states state before after = record { old = state before; new = state after }
