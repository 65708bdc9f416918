-- A legal plan changes pairs of supervoxels.
use Rattle.std.proofs.Common.{◌≡◌, ◌∙◌, eq-eqb, lt-ltb, ℕ, Bool, true, false, cond, not, eqb, ltb, List, [], ◌∷◌, map, refl, sym, ap, subst, inl, inr, Some, None, arith}
use Rattle.std.specs.List.{AllByRecursion, find, list_any}
use Rattle.std.specs.Option.{option_map_or}
use Rattle.std.proofs.lemmas.Bool.{and_parts, cases_order, cond_both, eqb-true, false≢true, ltb-true, or_cases}
use Rattle.op_model.specs.declared.base.Base.{Base}
use Rattle.op_model.specs.declared.base.Dataset.{Dataset}
use Rattle.op_model.specs.declared.base.Edge.{Edge}
use Rattle.op_model.specs.declared.base.Pair.{Pair}
use Rattle.op_model.specs.declared.entry.Changed.{Changed}
use Rattle.op_model.specs.declared.entry.Entry.{Entry}
use Rattle.op_model.specs.declared.reply.Refusal.TheVariants.{NoSuchSupervoxel}
use Rattle.op_model.specs.declared.request.AskedPair.{AskedPair}
use Rattle.op_model.specs.declared.request.Edit.{Edit}
use Rattle.op_model.specs.declared.request.Edit.TheVariants.{Merge, Redo, Split, Undo}
use Rattle.graph_model.proofs.FirstOpen.{head_none}
use Rattle.graph_model.specs.Lists.{has}
use Rattle.op_model.specs.Cuts.{least_cut, part}
use Rattle.op_model.specs.Edges.{named, named_ends, pair_before, pair_of, put_pair, same_pair}
use Rattle.op_model.specs.Labels.{edges, root}
use Rattle.op_model.specs.Laws.{IsKnown}
use Rattle.op_model.specs.Legal.{Legal, LegalPlan}
use Rattle.op_model.specs.Operations.{change, changed_by, entry_at, opposite}
use Rattle.op_model.specs.Refusals.{refuse_early, refuse_first, refuse_unknown}
use Rattle.op_model.specs.Valid.{IsBase}
use Rattle.op_model.proofs.CutLemmas.{cuts_from_part}
use Rattle.op_model.proofs.KnownLemmas.{all_filter, legal_known}
use Rattle.op_model.proofs.LegalLemmas.{first_none, refuse_first_none}
use Rattle.op_model.proofs.RefusalLemmas.{all_map, refuse_first_from}

-- what holds of each entry's changes holds of those of the one that is found
found_changes : (P : Changed → Type 0) (test : Entry → Bool) (log : List Entry) → AllByRecursion (λ e. AllByRecursion P e.changed) log → AllByRecursion P (option_map_or (λ e. e.changed) (find test log) [])
found_changes P test [] a = tt
found_changes P test (e ∷ log) a = go (test e) (found_changes P test log a.1)
  where
    go : (t : Bool) → AllByRecursion P (option_map_or (λ e. e.changed) (find test log) []) → AllByRecursion P (option_map_or (λ e. e.changed) (cond t (Some e) (find test log)) [])
    go true ih = a.0
    go false ih = ih

module _ (d : Dataset) (b : Base) (log : List Entry) where
  same_known : (p q : Pair) → same_pair p q ≡ true → IsKnown b p → IsKnown b q
  unfolding same_pair
  same_known p q h k =
      let s = and_parts _ _ h in
      let a : p.a ≡ q.a = eqb-true p.a q.a s.0 in
      let z : p.b ≡ q.b = eqb-true p.b q.b s.1 in
      (subst (λ x. has b.supervoxels x ≡ true) a k.0, subst (λ x. has b.supervoxels x ≡ true) z k.1, (let l = k.2 in omega (arith, a, z, l)))

  among_known : (es : List Edge) (p : Pair) → AllByRecursion (λ e. IsKnown b e.pair) es → list_any (λ e. same_pair e.pair p) es ≡ true → IsKnown b p
  among_known [] p a h = absurd (false≢true h)
  among_known (e ∷ es) p a h = elim (or_cases (same_pair e.pair p) _ h) [ inl q ↦ same_known e.pair p q a.0 | inr q ↦ among_known es p a.1 q ]

  ordered_known : (u v : ℕ) → has b.supervoxels u ≡ true → has b.supervoxels v ≡ true → (u ≡ v → ⊥) → IsKnown b (pair_of u v)
  unfolding pair_of
  ordered_known u v hu hv n =
      cond_both (ltb u v) (record { a = u; b = v }) (record { a = v; b = u }) (IsKnown b) (λ e. (hu, hv, ltb-true u v e))
      (λ e. (hv, hu, elim (cases_order u v) [ inl q ↦ absurd (n q) | inr (inl l) ↦ absurd (false≢true (sym e ∙ lt-ltb u v l)) | inr (inr l) ↦ l ]))

  first_known : (v : ℕ) (vs : List ℕ) → refuse_unknown d b (v ∷ vs) ≡ None → (has b.supervoxels v ≡ true) × (refuse_unknown d b vs ≡ None)
  unfolding refuse_unknown
  first_known v vs e = go (has b.supervoxels v) refl (refuse_first_none NoSuchSupervoxel (λ x. not (has b.supervoxels x)) (v ∷ vs) e)
    where
      go : (t : Bool) → has b.supervoxels v ≡ t → cond (not t) (Some v) (find (λ x. not (has b.supervoxels x)) vs) ≡ None
          → (has b.supervoxels v ≡ true) × (refuse_first NoSuchSupervoxel (λ x. not (has b.supervoxels x)) vs ≡ None)
      go true q h = (q, refuse_first_from NoSuchSupervoxel (λ x. not (has b.supervoxels x)) vs h)
      go false q h = cc

  put_known : (p : Pair) (qs : List Pair) → IsKnown b p → AllByRecursion (IsKnown b) qs → AllByRecursion (IsKnown b) (put_pair p qs)
  unfolding put_pair
  put_known p [] k a = (k, tt)
  put_known p (q ∷ qs) k a =
      cond_both (same_pair p q) (q ∷ qs) (cond (pair_before p q) (p ∷ q ∷ qs) (q ∷ put_pair p qs)) (AllByRecursion (IsKnown b)) (λ e. a)
      (λ e. cond_both (pair_before p q) (p ∷ q ∷ qs) (q ∷ put_pair p qs) (AllByRecursion (IsKnown b)) (λ e. (k, a)) (λ e. (a.0, put_known p qs k a.1)))

  merged_known : (pairs : List AskedPair) → refuse_unknown d b (named_ends pairs) ≡ None → find (λ p. eqb (root d b log p.a) (root d b log p.b)) pairs ≡ None → AllByRecursion (IsKnown b) (named pairs)
  unfolding named named_ends
  merged_known [] h g = tt
  merged_known (p ∷ ps) h g =
      let k = first_known p.a (p.b ∷ named_ends ps) h in
      let l = first_known p.b (named_ends ps) k.1 in
      let r = head_none (eqb (root d b log p.a) (root d b log p.b)) p (find (λ x. eqb (root d b log x.a) (root d b log x.b)) ps) g in
      let apart : p.a ≡ p.b → ⊥ = λ q. false≢true (sym r.0 ∙ eq-eqb (root d b log p.a) (root d b log p.b) (ap (root d b log) q)) in
      put_known (pair_of p.a p.b) (named ps) (ordered_known p.a p.b k.0 l.0 apart) (merged_known ps l.1 r.1)

  states_known : (on : Bool) (ps : List Pair) → AllByRecursion (IsKnown b) ps → AllByRecursion (λ (c : Changed). IsKnown b c.pair) (map (λ p. record { pair = p; active = on }) ps)
  states_known on [] k = tt
  states_known on (p ∷ ps) k = (k.0, states_known on ps k.1)

  opposites_known : (cs : List Changed) → AllByRecursion (λ c. IsKnown b c.pair) cs → AllByRecursion (λ c. IsKnown b c.pair) (map opposite cs)
  unfolding opposite
  opposites_known [] a = tt
  opposites_known (c ∷ cs) a = (a.0, opposites_known cs a.1)

  by_known : (n : ℕ) → AllByRecursion (λ e. AllByRecursion (λ c. IsKnown b c.pair) e.changed) log → AllByRecursion (λ c. IsKnown b c.pair) (changed_by log n)
  unfolding changed_by entry_at
  by_known n a = found_changes (λ c. IsKnown b c.pair) (λ e. eqb e.number n) log a

  change_known : (edit : Edit) → refuse_early d b log edit ≡ None → AllByRecursion (λ e. AllByRecursion (λ c. IsKnown b c.pair) e.changed) log → AllByRecursion (λ f. IsKnown b f.pair) (edges d b log)
      → AllByRecursion (λ c. IsKnown b c.pair) (change d b log edit)
  unfolding change refuse_early part
  change_known (Merge pairs) h a k =
      let one = first_none _ _ h in
      let four = first_none _ _ (first_none _ _ (first_none _ _ one.1).1).1 in
      states_known true (named pairs) (merged_known pairs one.0 (refuse_first_none _ (λ p. eqb (root d b log p.a) (root d b log p.b)) pairs four.0))
  change_known (Split s t) h a k =
      let es : List Edge = part d b log s in
      states_known false (least_cut es s t)
      (all_map (λ p. list_any (λ e. same_pair e.pair p) es ≡ true) (IsKnown b) (least_cut es s t) (λ p i. among_known es p (all_filter (λ f. IsKnown b f.pair) _ (edges d b log) k) i) (cuts_from_part es s t))
  change_known (Undo n) h a k = opposites_known (changed_by log n) (by_known n a)
  change_known (Redo n) h a k = by_known n a

  pub plan_known : (edit : Edit) (changed : List Changed) → IsBase d b → Legal d b log → LegalPlan d b log edit changed → AllByRecursion (λ c. IsKnown b c.pair) changed
  plan_known edit changed base legal plan =
      let k = legal_known d b base log legal in
      subst (AllByRecursion (λ c. IsKnown b c.pair)) (sym plan.2) (change_known edit plan.0 k.0 k.1)
