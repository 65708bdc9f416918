-- How many live roots a log may have: no more than twice its records.
use Rattle.std.proofs.Common.{◌≡◌, ℕ, ◌+◌, ◌*◌, ◌≤◌, Bool, true, false, cond, not, eqb, nat_lt, List, [], ◌∷◌, ◌++◌, length, map, sym, ap, subst, arith}
use Rattle.std.specs.List.{filter}
use Rattle.std.proofs.lemmas.List.{length-append, length-map}
use Rattle.graph_model.specs.Lists.{has}
use Rattle.graph_model.proofs.ListLemmas.{filter_length}
use Rattle.op_model.specs.declared.base.Dataset.{Dataset}
use Rattle.op_model.specs.declared.base.Base.{Base}
use Rattle.op_model.specs.declared.entry.Changed.{Changed}
use Rattle.op_model.specs.declared.entry.Entry.{Entry}
use Rattle.op_model.specs.Operations.{put_id, ascending, ends, entry_of, first_entry, next_entry}
use Rattle.op_model.specs.Records.{base_records, entry_records, records}
use Rattle.op_model.specs.Legal.{Legal}
use Rattle.histories.specs.Histories.{live_roots}

put_length : (x : ℕ) (ys : List ℕ) → length (put_id x ys) ≤ length ys + 1
unfolding put_id
put_length x [] = omega arith
put_length x (y ∷ ys) = go (eqb x y) (nat_lt x y) (put_length x ys)
  where
    go : (s t : Bool) → length (put_id x ys) ≤ length ys + 1 → length (cond s (y ∷ ys) (cond t (x ∷ y ∷ ys) (y ∷ put_id x ys))) ≤ length (y ∷ ys) + 1
    go true t h = omega arith
    go false true h = omega arith
    go false false h = omega (arith, h)

ascending_length : (xs : List ℕ) → length (ascending xs) ≤ length xs
unfolding ascending
ascending_length [] = omega arith
ascending_length (x ∷ xs) = let a = put_length x (ascending xs) in let h = ascending_length xs in omega (arith, a, h)

mapped_length : (f : ℕ → ℕ) (xs : List ℕ) → length (ascending (map f xs)) ≤ length xs
mapped_length f xs = let a = ascending_length (map f xs) in let m = length-map xs f in omega (arith, a, m)

ends_length : (cs : List Changed) → length (ends cs) ≡ 2 * length cs
unfolding ends
ends_length [] = omega arith
ends_length (c ∷ cs) = let h = ends_length cs in omega (arith, h)

-- the roots of some pairs' ends are at most two for each of the pairs
roots_made : (f : ℕ → ℕ) (cs : List Changed) → length (ascending (map f (ends cs))) ≤ 2 * length cs
roots_made f cs = let n = mapped_length f (ends cs) in let t = ends_length cs in omega (arith, n, t)

live_length : (e : Entry) (log : List Entry) → length (live_roots (e ∷ log)) ≤ length (live_roots log) + length e.made
unfolding live_roots
live_length e log =
    let a = length-append (filter (λ r. not (has e.retired r)) (live_roots log)) e.made in
    let f = filter_length (λ r. not (has e.retired r)) (live_roots log) in
    omega (arith, a, f)

module _ (d : Dataset) (b : Base) where
  first_made : (e : Entry) → Legal d b (e ∷ []) → length e.made ≤ length b.supervoxels
  unfolding first_entry
  first_made e legal = subst (λ n. n ≤ length b.supervoxels) (sym (ap (λ (x : Entry). length x.made) legal.0)) (mapped_length _ b.supervoxels)

  next_made : (e f : Entry) (log : List Entry) → Legal d b (e ∷ f ∷ log) → length e.made ≤ 2 * length e.changed
  unfolding next_entry entry_of
  next_made e f log legal = subst (λ (x : Entry). length x.made ≤ 2 * length x.changed) (sym legal.0.2) (roots_made _ _)

  -- the live roots before an entry and the roots that it makes
  pub made_few : (e : Entry) (log : List Entry) → Legal d b (e ∷ log) → length (live_roots log) + length e.made ≤ 2 * records d b (e ∷ log)
  unfolding live_roots records base_records entry_records
  made_few e [] legal = let m = first_made e legal in omega (arith, m)
  made_few e (f ∷ log) legal =
      let m = next_made e f log legal in
      let l = live_length f log in
      let h = made_few f log legal.1 in
      omega (arith, m, l, h)

  -- a log takes no fewer records than its oldest entries
  pub records_more : (newer : List Entry) (e : Entry) (older : List Entry) → records d b (e ∷ older) ≤ records d b (newer ++ e ∷ older)
  unfolding records
  records_more [] e older = omega arith
  records_more (f ∷ []) e older = omega arith
  records_more (f ∷ g ∷ newer) e older = let h = records_more (g ∷ newer) e older in omega (arith, h)
