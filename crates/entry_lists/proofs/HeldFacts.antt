-- Where the links of records at their places end, one more of them.
use Rattle.std.proofs.Common.{◌≡◌, ℕ, ◌+◌, ◌<◌, ◌≤◌, List, [], ◌∷◌, ◌++◌, length, take, get_or, sym, ◌∙◌, subst, arith}
use Rattle.graph_model.proofs.ListLemmas.{any_default}
use Rattle.op_model.specs.declared.base.Dataset.{Dataset}
use Rattle.op_model.specs.declared.base.Base.{Base}
use Rattle.op_model.specs.declared.entry.Entry.{Entry}
use Rattle.record_rows.specs.LogRows.{rows_of}
use Rattle.record_rows.specs.Readings.{HoldsId}
use Rattle.row_append.specs.declared.tail.Tail.{Tail}
use Rattle.row_append.specs.Ends.{EndsAt, VersionsOf}
use Rattle.row_append.specs.Tails.{word_number}
use Rattle.base_rows.specs.States.{AreTails}
use Rattle.base_rows.proofs.Passing.{take_whole}
use Rattle.entry_lists.specs.Links.{AreHeld}
use Rattle.entry_lists.proofs.Tails.{tails_more}

module _ (d : Dataset) (b : Base) (log : List Entry) (ids places : List ℕ) (held : AreHeld d b log ids places) where
  inside : (k : ℕ) → k < length places → k < length ids
  inside k l = let n = held.count in omega (arith, n, l)

  pub held_at : (k p : ℕ) → k < length places → p ≡ get_or places k p → HoldsId d b log p (get_or ids k 0)
  held_at k p l q = subst (λ n. HoldsId d b log n (get_or ids k 0)) (sym (q ∙ any_default places k p 0 l)) (held.each k (inside k l))

  pub ends_next : (k : ℕ) (tails after : List Tail) (t : Tail) → k < length places → after ≡ tails ++ t ∷ [] → AreTails VersionsOf (take k ids) (rows_of d b log) tails → EndsAt (VersionsOf (get_or ids k 0)) (rows_of d b log) (word_number t)
      → AreTails VersionsOf (take (k + 1) ids) (rows_of d b log) after
  ends_next k tails after t l p a e = tails_more VersionsOf ids (rows_of d b log) k (get_or ids k 0) tails after t (inside k l) (any_default ids k 0 (get_or ids k 0) (inside k l)) p a e

  pub ends_whole : (k : ℕ) (tails : List Tail) → length places ≤ k → AreTails VersionsOf (take k ids) (rows_of d b log) tails → AreTails VersionsOf ids (rows_of d b log) tails
  ends_whole k tails l a = let n = held.count in subst (λ vs. AreTails VersionsOf vs (rows_of d b log) tails) (take_whole ids k (omega (arith, n, l))) a
