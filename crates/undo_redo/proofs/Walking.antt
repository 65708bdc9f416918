-- Walks along the changes of an entry.
use Rattle.std.proofs.Common.{◌≡◌, ℕ, zero, suc, append-nil, drop, ◌+◌, ◌<◌, ◌≤◌, Bool, true, false, cond, ◌||◌, eqb, List, [], ◌∷◌, ◌++◌, length, map, get_or, Some, None, refl, sym, ◌∙◌, ap, subst, arith}
use Rattle.std.specs.List.{find, filter_map, cons_option, AllByRecursion}
use Rattle.std.specs.Option.{option_map_or}
use Rattle.std.proofs.Math.Bool.{or_assoc}
use Rattle.std.proofs.lemmas.List.{append_assoc, drop_more}
use Rattle.op_model.specs.declared.base.Dataset.{Dataset}
use Rattle.op_model.specs.declared.base.Base.{Base}
use Rattle.op_model.specs.declared.entry.Changed.{Changed}
use Rattle.op_model.specs.declared.entry.Entry.{Entry}
use Rattle.graph_model.specs.Lists.{has}
use Rattle.op_model.specs.Labels.{edges, root}
use Rattle.op_model.specs.Laws.{IsKnown}
use Rattle.op_model.specs.Operations.{changed_by, ends, entry_at, opposite}
use Rattle.op_model.proofs.KnownLemmas.{legal_known}
use Rattle.record_rows.specs.Chains.{change_in}
use Rattle.record_rows.specs.LogRows.{rows_of}
use Rattle.record_rows.specs.Readings.{Image, HoldsChange, next_place}
use Rattle.record_rows.proofs.WalkLemmas.{from_spot, gather_step}
use Rattle.log_rows.proofs.ChangeWords.{change_told, not_told, change_at, change_picks}
use Rattle.log_rows.proofs.ChainWalk.{Along}
use Rattle.log_rows.proofs.EntryParts.{of_log}
use Rattle.op_model.specs.Locks.{lock_of}
use Rattle.root_masks.specs.Masks.{has_bit}
use Rattle.undo_redo.specs.Turns.{changer, is_overtaken, overtaker}

all_found : {X : Type 0} (P : X → Type 0) (t : X → Bool) (xs : List X) (x : X) → AllByRecursion P xs → find t xs ≡ Some x → P x
all_found P t [] x a e = cc
all_found {X = X} P t (y ∷ ys) x a e = go (t y) e (all_found P t ys x a.1)
  where
    go : (s : Bool) → cond s (Some y) (find t ys) ≡ Some x → (find t ys ≡ Some x → P x) → P x
    go true q ih = let k : y ≡ x = cc in subst P k a.0
    go false q ih = ih q

middle : {X : Type 0} (P : X → Type 0) (xs : List X) (y : X) (ys : List X) → AllByRecursion P (xs ++ y ∷ ys) → P y
middle P [] y ys a = a.0
middle P (x ∷ xs) y ys a = middle P xs y ys a.1

module _ (d : Dataset) (b : Base) (log : List Entry) (words : List ℕ) (i : Image d b log words) (n p : ℕ) (found : List Changed) (all : Along (rows_of d b log) (change_in n) (change_told n) found (Some p)) (e : Entry) (at : entry_at log n ≡ Some e) where
  -- where the walk is, the next of the entry's changes stands
  pub standing : (c : Changed) × HoldsChange d b log p n c × (rest : List Changed) × (e.changed ≡ found ++ c ∷ rest)
  standing =
      let l = all.leads in
      let c = change_at d b log n p l.1 l.2 l.3 in (
        c.0,
        c.1,
        filter_map (change_told n) (from_spot (rows_of d b log) (next_place (change_in n) (rows_of d b log) p)),
        sym (of_log d b n (change_told n) (λ x. x.changed) (change_picks n) log e i.legal at)
            ∙ (all.whole
            ∙ ap (λ xs. found ++ xs)
            (gather_step (change_in n) (change_told n) (not_told n) (rows_of d b log) p l.1 l.2
            ∙ ap (λ o. cons_option o (filter_map (change_told n) (from_spot (rows_of d b log) (next_place (change_in n) (rows_of d b log) p)))) c.2)),
      )

  pub standing_known : IsKnown b standing.0.pair
  unfolding entry_at
  standing_known =
      let s = standing in
      middle (λ c. IsKnown b c.pair) found s.0 s.2 (subst (AllByRecursion (λ c. IsKnown b c.pair)) s.3 (all_found (λ x. AllByRecursion (λ c. IsKnown b c.pair) x.changed) (λ x. eqb x.number n) log e (legal_known d b i.base log i.legal).0 at))

-- one more pair's locks
pub ends_more : (found : List Changed) (c : Changed) → ends (found ++ c ∷ []) ≡ ends found ++ c.pair.a ∷ c.pair.b ∷ []
unfolding ends
ends_more [] c = refl
ends_more (x ∷ xs) c = ap (λ ys. x.pair.a ∷ x.pair.b ∷ ys) (ends_more xs c)

has_more : (d : Dataset) (b : Base) (log : List Entry) (xs : List ℕ) (u v l : ℕ) → has (map (lock_of d.layout) (map (root d b log) (xs ++ u ∷ v ∷ []))) l
    ≡ (has (map (lock_of d.layout) (map (root d b log) xs)) l || (eqb (lock_of d.layout (root d b log u)) l || eqb (lock_of d.layout (root d b log v)) l))
has_more d b log [] u v l = go (eqb (lock_of d.layout (root d b log u)) l) (eqb (lock_of d.layout (root d b log v)) l)
  where
    go : (s t : Bool) → (s || (t || false)) ≡ (s || t)
    go true t = refl
    go false true = refl
    go false false = refl
has_more d b log (x ∷ xs) u v l =
    ap (λ t. eqb (lock_of d.layout (root d b log x)) l || t) (has_more d b log xs u v l)
    ∙ sym (or_assoc (eqb (lock_of d.layout (root d b log x)) l) (has (map (lock_of d.layout) (map (root d b log) xs)) l) (eqb (lock_of d.layout (root d b log u)) l || eqb (lock_of d.layout (root d b log v)) l))

pub locks_more : (d : Dataset) (b : Base) (log : List Entry) (found : List Changed) (c : Changed) (mask more l : ℕ)
    → has_bit mask l ≡ has (map (lock_of d.layout) (map (root d b log) (ends found))) l
    → has_bit more l ≡ (has_bit mask l || (eqb (lock_of d.layout (root d b log c.pair.a)) l || eqb (lock_of d.layout (root d b log c.pair.b)) l))
    → has_bit more l ≡ has (map (lock_of d.layout) (map (root d b log) (ends (found ++ c ∷ [])))) l
locks_more d b log found c mask more l e h =
    h ∙ (ap (λ t. t || (eqb (lock_of d.layout (root d b log c.pair.a)) l || eqb (lock_of d.layout (root d b log c.pair.b)) l)) e
    ∙ (sym (has_more d b log (ends found) c.pair.a c.pair.b l) ∙ ap (λ xs. has (map (lock_of d.layout) (map (root d b log) xs)) l) (sym (ends_more found c))))

-- the pairs that an entry changed
pub changed_of : (log : List Entry) (n : ℕ) (e : Entry) → entry_at log n ≡ Some e → changed_by log n ≡ e.changed
unfolding changed_by
changed_of log n e h = ap (λ o. option_map_or (λ x. x.changed) o []) h

-- the first pair that isn't in its state
pub overtaken_there : (d : Dataset) (b : Base) (log : List Entry) (cs found : List Changed) (c : Changed) (rest : List Changed) → cs ≡ found ++ c ∷ rest
    → find (is_overtaken (edges d b log)) found ≡ None → is_overtaken (edges d b log) c ≡ true → Some (changer log c.pair) ≡ overtaker d b log cs
unfolding overtaker
overtaken_there d b log cs found c rest e none here = ap (λ o. option_map_or (λ x. Some (changer log x.pair)) o None) (sym (ap (find (is_overtaken (edges d b log))) e ∙ go found none))
  where
    go : (xs : List Changed) → find (is_overtaken (edges d b log)) xs ≡ None → find (is_overtaken (edges d b log)) (xs ++ c ∷ rest) ≡ Some c
    go [] h = rw here refl
    go (x ∷ xs) h = by (is_overtaken (edges d b log) x) h (go xs)
      where
        by : (t : Bool) → cond t (Some x) (find (is_overtaken (edges d b log)) xs) ≡ None → (find (is_overtaken (edges d b log)) xs ≡ None → find (is_overtaken (edges d b log)) (xs ++ c ∷ rest) ≡ Some c)
            → cond t (Some x) (find (is_overtaken (edges d b log)) (xs ++ c ∷ rest)) ≡ Some c
        by true q ih = cc
        by false q ih = ih q

pub kept_more : (t : Changed → Bool) (found : List Changed) (c : Changed) → find t found ≡ None → t c ≡ false → find t (found ++ c ∷ []) ≡ None
kept_more t [] c h k = rw k refl
kept_more t (x ∷ xs) c h k = go (t x) h (kept_more t xs c)
  where
    go : (s : Bool) → cond s (Some x) (find t xs) ≡ None → (find t xs ≡ None → t c ≡ false → find t (xs ++ c ∷ []) ≡ None) → cond s (Some x) (find t (xs ++ c ∷ [])) ≡ None
    go true q ih = cc
    go false q ih = ih q k

pub none_overtaken : (d : Dataset) (b : Base) (log : List Entry) (cs found : List Changed) → cs ≡ found → find (is_overtaken (edges d b log)) found ≡ None → None ≡ overtaker d b log cs
unfolding overtaker
none_overtaken d b log cs found e h = ap (λ o. option_map_or (λ x. Some (changer log x.pair)) o None) (sym (ap (find (is_overtaken (edges d b log))) e ∙ h))

pub by_true : (t : Bool) (k by : ℕ) → cond t (Some k) None ≡ Some by → (t ≡ true) × (by ≡ k)
by_true true k by h = (refl, cc)
by_true false k by h = cc

pub by_false : (t : Bool) (k : ℕ) → cond t (Some k) None ≡ None → t ≡ false
by_false true k h = cc
by_false false k h = refl

pub opposite_more : (cs items more : List Changed) (k : ℕ) (x y : Changed) → k < length cs → x ≡ get_or cs k x → y ≡ opposite x → more ≡ items ++ y ∷ [] → items ++ map opposite (drop k cs) ≡ map opposite cs
    → more ++ map opposite (drop (k + 1) cs) ≡ map opposite cs
opposite_more cs items more k x y l e h m i =
    ap (λ xs. xs ++ map opposite (drop (k + 1) cs)) m
    ∙ (append_assoc items (y ∷ []) (map opposite (drop (k + 1) cs))
    ∙ (ap (λ z. items ++ z ∷ map opposite (drop (k + 1) cs)) h
    ∙ (ap (λ xs. items ++ map opposite xs) (sym (drop_more cs k x l ∙ ap (λ z. z ∷ drop (k + 1) cs) (sym e))) ∙ i)))

pub opposite_end : (cs items : List Changed) (k : ℕ) → length cs ≤ k → items ++ map opposite (drop k cs) ≡ map opposite cs → items ≡ map opposite cs
opposite_end cs items k l i = sym (ap (λ xs. items ++ map opposite xs) (dropped cs k l) ∙ append-nil items) ∙ i
  where
    dropped : (xs : List Changed) (n : ℕ) → length xs ≤ n → drop n xs ≡ []
    dropped [] zero h = refl
    dropped [] (suc n) h = refl
    dropped (x ∷ xs) zero h = absurd (omega arith)
    dropped (x ∷ xs) (suc n) h = dropped xs n (omega arith)
