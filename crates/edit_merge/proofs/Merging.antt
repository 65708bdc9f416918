-- What a merge of pairs is refused for, pair by pair.
use Rattle.std.proofs.Common.{◌≡◌, ℕ, zero, suc, ◌+◌, ◌<◌, ◌≤◌, Bool, true, false, cond, not, ◌||◌, eqb, ltb, List, [], ◌∷◌, length, map, drop, get_or, Option, Some, None, refl, sym, ◌∙◌, ap, subst, arith, eq-eqb, ne_eqb, lt-ltb}
use Rattle.std.specs.List.{find}
use Rattle.std.specs.Option.{option_map_or}
use Rattle.std.proofs.lemmas.Bool.{le-ltb}
use Rattle.std.proofs.lemmas.List.{drop_more}
use Rattle.op_model.specs.declared.base.Dataset.{Dataset}
use Rattle.op_model.specs.declared.base.Base.{Base}
use Rattle.op_model.specs.declared.request.AskedPair.{AskedPair}
use Rattle.op_model.specs.declared.request.Edit.TheVariants.{Merge}
use Rattle.op_model.specs.declared.entry.Entry.{Entry}
use Rattle.op_model.specs.declared.reply.Refusal.TheVariants.{NoSuchSupervoxel, NoPairs, TooManyPairs, SameRoot}
use Rattle.graph_model.specs.Lists.{has}
use Rattle.op_model.specs.declared.entry.Changed.{Changed}
use Rattle.op_model.specs.Edges.{named, named_ends}
use Rattle.op_model.specs.Legal.{LegalPlan}
use Rattle.op_model.specs.Operations.{change, touched}
use Rattle.op_model.specs.Labels.{root}
use Rattle.op_model.specs.Refusals.{first_of, refuse_early, refuse_first, refuse_if, refuse_unknown, refuse_cut}
use Rattle.op_model.specs.Locks.{lock_of}
use Rattle.root_masks.specs.Masks.{has_bit, HasLocks}
use Rattle.root_masks.specs.Plans.{AreKnown, AreLocks}
use Rattle.edit_merge.specs.Plans.{first_joined, first_unknown, on}

-- the pairs from a place on are the pair there and those behind
pub pair_left : (pairs : List AskedPair) (k : ℕ) (p : AskedPair) → k < length pairs → p ≡ get_or pairs k p → drop k pairs ≡ p ∷ drop (k + 1) pairs
pair_left pairs k p l e = drop_more pairs k p l ∙ ap (λ x. x ∷ drop (k + 1) pairs) (sym e)

pub none_left : (pairs : List AskedPair) (k : ℕ) → length pairs ≤ k → drop k pairs ≡ []
none_left [] zero n = refl
none_left [] (suc k) n = refl
none_left (p ∷ ps) zero n = absurd (omega arith)
none_left (p ∷ ps) (suc k) n = none_left ps k (omega arith)

module _ (b : Base) where
  -- no end that isn't known
  pub all_known : (ids : List ℕ) → first_unknown b ids ≡ None → AreKnown b ids
  unfolding first_unknown
  all_known [] h = tt
  all_known (v ∷ ids) h = go (has b.supervoxels v) refl h (all_known ids)
    where
      go : (t : Bool) → has b.supervoxels v ≡ t → cond (not t) (Some v) (find (λ x. not (has b.supervoxels x)) ids) ≡ None
          → (find (λ x. not (has b.supervoxels x)) ids ≡ None → AreKnown b ids) → AreKnown b (v ∷ ids)
      go true q e ih = (q, ih e)
      go false q e ih = cc

  pub first_missing : (p : AskedPair) (ps : List AskedPair) → has b.supervoxels p.a ≡ false → Some p.a ≡ first_unknown b (named_ends (p ∷ ps))
  unfolding first_unknown named_ends
  first_missing p ps h = rw h refl

  pub second_missing : (p : AskedPair) (ps : List AskedPair) → has b.supervoxels p.a ≡ true → has b.supervoxels p.b ≡ false → Some p.b ≡ first_unknown b (named_ends (p ∷ ps))
  unfolding first_unknown named_ends
  second_missing p ps h k = rw (h, k) refl

  pub none_missing : (p : AskedPair) (ps : List AskedPair) → has b.supervoxels p.a ≡ true → has b.supervoxels p.b ≡ true → first_unknown b (named_ends (p ∷ ps)) ≡ first_unknown b (named_ends ps)
  unfolding first_unknown named_ends
  none_missing p ps h k = rw (h, k) refl

  pub none_unknown : None ≡ first_unknown b (named_ends [])
  unfolding first_unknown named_ends
  none_unknown = refl

  -- both ends of each pair are known
  pub known_at : (pairs : List AskedPair) (k : ℕ) (p : AskedPair) → AreKnown b (named_ends pairs) → k < length pairs → p ≡ get_or pairs k p → (has b.supervoxels p.a ≡ true) × (has b.supervoxels p.b ≡ true)
  unfolding named_ends
  known_at [] k p a l e = absurd (omega arith)
  known_at (q ∷ qs) zero p a l e = subst (λ (x : AskedPair). (has b.supervoxels x.a ≡ true) × (has b.supervoxels x.b ≡ true)) (sym e) (a.0, a.1.0)
  known_at (q ∷ qs) (suc k) p a l e = known_at qs k p a.1.1 (omega arith) e

module _ (d : Dataset) (b : Base) (log : List Entry) where
  pub joined_here : (p : AskedPair) (ps : List AskedPair) → eqb (root d b log p.a) (root d b log p.b) ≡ true → Some p ≡ first_joined d b log (p ∷ ps)
  unfolding first_joined
  joined_here p ps h = rw h refl

  pub joined_later : (p : AskedPair) (ps : List AskedPair) → eqb (root d b log p.a) (root d b log p.b) ≡ false → first_joined d b log (p ∷ ps) ≡ first_joined d b log ps
  unfolding first_joined
  joined_later p ps h = rw h refl

  pub none_joined : None ≡ first_joined d b log []
  unfolding first_joined
  none_joined = refl

  -- a pair that is found has known ends
  pub joined_known : (pairs : List AskedPair) (p : AskedPair) → AreKnown b (named_ends pairs) → first_joined d b log pairs ≡ Some p → has b.supervoxels p.a ≡ true
  unfolding first_joined named_ends
  joined_known [] p a h = cc
  joined_known (q ∷ qs) p a h = go (eqb (root d b log q.a) (root d b log q.b)) h (joined_known qs p a.1.1)
    where
      go : (t : Bool) → cond t (Some q) (find (λ x. eqb (root d b log x.a) (root d b log x.b)) qs) ≡ Some p
          → (find (λ x. eqb (root d b log x.a) (root d b log x.b)) qs ≡ Some p → has b.supervoxels p.a ≡ true) → has b.supervoxels p.a ≡ true
      go true e ih = let k : q ≡ p = cc in subst (λ (x : AskedPair). has b.supervoxels x.a ≡ true) k a.0
      go false e ih = ih e

  module _ (pairs : List AskedPair) where
    pub refused_unknown : (id : ℕ) → first_unknown b (named_ends pairs) ≡ Some id → Some (NoSuchSupervoxel id) ≡ refuse_early d b log (Merge pairs)
    unfolding refuse_early first_of refuse_unknown refuse_first first_unknown
    refused_unknown id h = rw h refl

    pub refused_empty : first_unknown b (named_ends pairs) ≡ None → length pairs ≡ 0 → Some NoPairs ≡ refuse_early d b log (Merge pairs)
    unfolding refuse_early first_of refuse_unknown refuse_first first_unknown refuse_if
    refused_empty h e = rw (h, eq-eqb (length pairs) 0 e) refl

    pub refused_many : first_unknown b (named_ends pairs) ≡ None → (length pairs ≡ 0 → ⊥) → 64 < length pairs → Some (TooManyPairs (length pairs)) ≡ refuse_early d b log (Merge pairs)
    unfolding refuse_early first_of refuse_unknown refuse_first first_unknown refuse_if
    refused_many h e m = rw (h, ne_eqb (length pairs) 0 e, lt-ltb 64 (length pairs) m) refl

    pub refused_joined : (p : AskedPair) → first_unknown b (named_ends pairs) ≡ None → (length pairs ≡ 0 → ⊥) → length pairs ≤ 64 → first_joined d b log pairs ≡ Some p
        → Some (SameRoot (root d b log p.a)) ≡ refuse_early d b log (Merge pairs)
    unfolding refuse_early first_of refuse_unknown refuse_first first_unknown first_joined refuse_if
    refused_joined p h e m j = rw (h, ne_eqb (length pairs) 0 e, le-ltb 64 (length pairs) m, j) refl

    pub unrefused : first_unknown b (named_ends pairs) ≡ None → (length pairs ≡ 0 → ⊥) → length pairs ≤ 64 → first_joined d b log pairs ≡ None → None ≡ refuse_early d b log (Merge pairs)
    unfolding refuse_early first_of refuse_unknown refuse_first first_unknown first_joined refuse_if
    unrefused h e m j = rw (h, ne_eqb (length pairs) 0 e, le-ltb 64 (length pairs) m, j) refl

    -- a merge that isn't refused names known supervoxels
    pub merge_known : None ≡ refuse_early d b log (Merge pairs) → AreKnown b (named_ends pairs)
    unfolding refuse_early first_of refuse_unknown refuse_first first_unknown
    merge_known h = all_known b (named_ends pairs) (go (first_unknown b (named_ends pairs)) refl h)
      where
        go : (o : Option ℕ) → first_unknown b (named_ends pairs) ≡ o
            → None ≡ first_of (option_map_or (λ x. Some (NoSuchSupervoxel x)) o None ∷ refuse_if (eqb (length pairs) 0) NoPairs ∷ refuse_if (ltb 64 (length pairs)) (TooManyPairs (length pairs)) ∷ refuse_first (λ p. SameRoot (root d b log p.a)) (λ p. eqb (root d b log p.a) (root d b log p.b)) pairs ∷ [])
            → first_unknown b (named_ends pairs) ≡ None
        go None q e = q
        go (Some id) q e = cc

  pub locks_more : (mask more : ℕ) (p : AskedPair) (ps : List AskedPair) (l : ℕ) (t : Bool)
      → has_bit more l ≡ (has_bit mask l || (eqb (lock_of d.layout (root d b log p.a)) l || eqb (lock_of d.layout (root d b log p.b)) l))
      → (has_bit mask l || has (map (lock_of d.layout) (map (root d b log) (named_ends (p ∷ ps)))) l) ≡ t
      → (has_bit more l || has (map (lock_of d.layout) (map (root d b log) (named_ends ps))) l) ≡ t
  unfolding named_ends
  locks_more mask more p ps l t h e = ap (λ x. x || has (map (lock_of d.layout) (map (root d b log) (named_ends ps))) l) h ∙ (group (has_bit mask l) (eqb (lock_of d.layout (root d b log p.a)) l) (eqb (lock_of d.layout (root d b log p.b)) l) (has (map (lock_of d.layout) (map (root d b log) (named_ends ps))) l) ∙ e)
    where
      group : (m x y r : Bool) → ((m || (x || y)) || r) ≡ (m || (x || (y || r)))
      group true x y r = refl
      group false true y r = refl
      group false false y r = refl

  pub locks_end : (mask l : ℕ) (t : Bool) → (has_bit mask l || has (map (lock_of d.layout) (map (root d b log) (named_ends []))) l) ≡ t → has_bit mask l ≡ t
  unfolding named_ends
  locks_end mask l t e = go (has_bit mask l) e
    where
      go : (m : Bool) → (m || false) ≡ t → m ≡ t
      go true h = h
      go false h = h

module _ (d : Dataset) (b : Base) (log : List Entry) (pairs : List AskedPair) where
  pub merge_locks : (mask : ℕ) → None ≡ refuse_early d b log (Merge pairs) → HasLocks d.layout (map (root d b log) (named_ends pairs)) mask → AreLocks d b log (Merge pairs) mask
  unfolding touched
  merge_locks mask h l = (sym h, l)

  pub merge_plan : (cs : List Changed) → None ≡ refuse_early d b log (Merge pairs) → cs ≡ map on (named pairs) → LegalPlan d b log (Merge pairs) cs
  unfolding refuse_cut change on
  merge_plan cs h e = (sym h, refl, e)
