-- The leaves in the record of a root are those that the root is answered with.
use Rattle.std.proofs.Common.{◌≡◌, ℕ, zero, suc, ◌-◌, ◌<◌, ◌≤◌, Bool, true, false, ◌||◌, eqb, List, [], ◌∷◌, ◌++◌, length, map, take, drop, refl, sym, ◌∙◌, ap, subst, inl, inr, arith, eq-eqb}
use Rattle.std.specs.List.{filter}
use Rattle.std.proofs.lemmas.List.{take-append-drop}
use Rattle.std.proofs.lemmas.Bool.{cond-true, cond-false, cases_Bool, eqb-true, or_left, or_right}
use Rattle.op_model.specs.declared.base.Dataset.{Dataset}
use Rattle.op_model.specs.declared.base.Base.{Base}
use Rattle.op_model.specs.declared.entry.Asked.TheVariants as asked
use Rattle.op_model.specs.declared.entry.Changed.{Changed}
use Rattle.op_model.specs.declared.entry.Entry.{Entry}
use Rattle.graph_model.specs.Lists.{has}
use Rattle.graph_model.proofs.ListLemmas.{has_cases, has_none, filter_has, filter_only}
use Rattle.op_model.specs.Answers.{leaves, leaves_at}
use Rattle.op_model.specs.Chunks.{chunk, layers, top}
use Rattle.op_model.specs.Labels.{is_new, is_empty, touches, component, node, root}
use Rattle.op_model.specs.Legal.{Legal}
use Rattle.op_model.specs.Operations.{change, ends, ascending, next_entry, entry_of}
use Rattle.op_model.specs.Transcript.{log_at}
use Rattle.op_model.specs.Valid.{IsDataset, IsBase}
use Rattle.op_model.proofs.KnownLemmas.{legal_known}
use Rattle.op_model.proofs.LabelLemmas.{own_component}
use Rattle.op_model.proofs.LegalLemmas.{ascending_has, map_has}
use Rattle.op_model.proofs.LocalLemmas.{component_Joined, joined_root, root_joined, top_in_layers, touches_end}
use Rattle.op_model.proofs.MadeLemmas.{ascending_only, ends_known, map_only, root_same}
use Rattle.record_rows.specs.Rows.{Node}
use Rattle.record_rows.specs.Readings.{HoldsNode}
use Rattle.record_rows.proofs.CountLemmas.{component_differ}
use Rattle.record_rows.proofs.DifferLemmas.{differ_filter}
use Rattle.record_rows.proofs.FirstRoots.{first_made}
use Rattle.record_rows.proofs.LayerIds.{same_layer}
use Rattle.record_rows.proofs.LinkLemmas.{of_component, to_component}
use Rattle.record_rows.proofs.OnceLemmas.{ascending_differ, layer_low}
use Rattle.record_rows.proofs.SumLemmas.{sorted_same}
use Rattle.node_reader.proofs.NodeChildren.{node_raised}
use Rattle.node_reader.proofs.NodeLeaves.{Born, later_other, record_tells}

end_touches : (cs : List Changed) (vs : List ℕ) (x : ℕ) → has (ends cs) x ≡ true → has vs x ≡ true → touches cs vs ≡ true
unfolding ends touches
end_touches [] vs x h k = has_none x h
end_touches (c ∷ cs) vs x h k =
    let here : (y : ℕ) → y ≡ x → has vs y ≡ true = λ y q. subst (λ z. has vs z ≡ true) (sym q) k in
    elim (has_cases c.pair.a (c.pair.b ∷ ends cs) x h) [
      | inl q ↦ or_left (has vs c.pair.a || has vs c.pair.b) _ (or_left (has vs c.pair.a) _ (here c.pair.a q))
      | inr g ↦ elim (has_cases c.pair.b (ends cs) x g) [
        | inl q ↦ or_left (has vs c.pair.a || has vs c.pair.b) _ (or_right (has vs c.pair.a) _ (here c.pair.b q))
        | inr m ↦ or_right (has vs c.pair.a || has vs c.pair.b) _ (end_touches cs vs x m k)
      ]
    ]

module _ (d : Dataset) (b : Base) (valid : IsDataset d) (base : IsBase d b) where
  map_same : (f g : ℕ → ℕ) → ((x : ℕ) → f x ≡ g x) → (xs : List ℕ) → map f xs ≡ map g xs
  map_same f g h [] = refl
  map_same f g h (x ∷ xs) = let p = h x in let q = map_same f g h xs in cc

  -- what an entry behind the first made
  made_roots : (e f : Entry) (log : List Entry) → Legal d b (e ∷ f ∷ log) → e.made ≡ ascending (map (root d b (e ∷ f ∷ log)) (ends e.changed))
  unfolding next_entry entry_of
  made_roots e f log legal =
      let cs : List Changed = change d b (f ∷ log) legal.0.0 in
      let next : Entry = record { number = length (f ∷ log); client = e.client; line = e.line; at = e.at; asked = asked.Edit legal.0.0; changed = cs; retired = []; made = [] } in
      let m : e.made ≡ ascending (map (root d b (next ∷ f ∷ log)) (ends cs)) = ap (λ x. x.made) legal.0.2 in
      let c : e.changed ≡ cs = ap (λ x. x.changed) legal.0.2 in
      m ∙ (ap (λ xs. ascending (map (root d b (next ∷ f ∷ log)) (ends xs))) (sym c)
      ∙ ap ascending (map_same (root d b (next ∷ f ∷ log)) (root d b (e ∷ f ∷ log)) (λ v. root_same d b next e (f ∷ log) v (sym c)) (ends e.changed)))

  abbrev pub Fresh : Entry → List Entry → ℕ → Type 0
  Fresh e log y = (u : ℕ) × (has b.supervoxels u ≡ true) × (root d b (e ∷ log) u ≡ y) × (is_new d b (e ∷ log) (top d) u ≡ true)

  pub made_fresh : (e : Entry) (log : List Entry) (y : ℕ) → Legal d b (e ∷ log) → has e.made y ≡ true → Fresh e log y
  unfolding is_new is_empty
  made_fresh e [] y legal h =
      let r = map_only (root d b (e ∷ [])) b.supervoxels y (ascending_only _ y (subst (λ xs. has xs y ≡ true) (first_made d b valid base e legal) h)) in
      (r.0, r.1, r.2, refl)
  made_fresh e (f ∷ log) y legal h =
      let r = map_only (root d b (e ∷ f ∷ log)) (ends e.changed) y (ascending_only _ y (subst (λ xs. has xs y ≡ true) (made_roots e f log legal) h)) in
      let known : has b.supervoxels r.0 ≡ true = ends_known b e.changed r.0 (legal_known d b base (e ∷ f ∷ log) legal).0.0 r.1 in
      (r.0, known, r.2, end_touches e.changed (component d b (e ∷ f ∷ log) (top d) r.0) r.0 r.1 (own_component d b (e ∷ f ∷ log) (top d) r.0 known))

  -- no later entry made a root anew
  not_made_later : (g : Entry) (newer : List Entry) (e : Entry) (log : List Entry) → Legal d b (g ∷ (newer ++ e ∷ log)) → (w : ℕ) → has b.supervoxels w ≡ true → has g.made (root d b (e ∷ log) w) ≡ false
  unfolding root
  not_made_later g newer e log legal w hw = elim (cases_Bool (has g.made (node d b (e ∷ log) (top d) w))) [ inl t ↦ absurd (go (made_fresh g (newer ++ e ∷ log) (node d b (e ∷ log) (top d) w) legal t)) | inr f ↦ f ]
    where
      go : Fresh g (newer ++ e ∷ log) (node d b (e ∷ log) (top d) w) → ⊥
      go r =
          let whole : List Entry = g ∷ (newer ++ e ∷ log) in
          let u : ℕ = r.0 in
          let n : Node = record { id = node d b whole (top d) u; chunk = chunk d (top d) u; leaves = component d b whole (top d) u; made = 0 } in
          let born : Born d b whole n = record { layer = top d; supervoxel = u; layered = top_in_layers d; low = layer_low d (top d) (top_in_layers d); known = r.1; fresh = r.3; in_chunk = refl; named = refl; holds = refl } in
          later_other d b valid base g newer e log legal n born (top d) w (top_in_layers d) hw r.2

  -- the entry that made a root names it
  pub made_here : (e : Entry) (log : List Entry) → Legal d b (e ∷ log) → (w : ℕ) → has b.supervoxels w ≡ true → is_new d b (e ∷ log) (top d) w ≡ true → has e.made (root d b (e ∷ log) w) ≡ true
  unfolding is_new is_empty
  made_here e [] legal w hw n =
      subst (λ xs. has xs (root d b (e ∷ []) w) ≡ true) (sym (first_made d b valid base e legal)) (ascending_has _ _ (map_has (root d b (e ∷ [])) b.supervoxels w hw))
  made_here e (f ∷ log) legal w hw n =
      let whole : List Entry = e ∷ f ∷ log in
      let x = touches_end e.changed (component d b whole (top d) w) n in
      let same : root d b whole w ≡ root d b whole x.0 = joined_root d b e (f ∷ log) w x.0 valid.layout legal hw (component_Joined d b whole (top d) w x.0 x.2) in
      subst (λ xs. has xs (root d b whole w) ≡ true) (sym (made_roots e f log legal))
      (subst (λ y. has (ascending (map (root d b whole) (ends e.changed))) y ≡ true) (sym same) (ascending_has _ _ (map_has (root d b whole) (ends e.changed) x.0 x.1)))

  -- the supervoxels of a root are those that are joined in the top layer
  root_leaves : (e : Entry) (log : List Entry) → Legal d b (e ∷ log) → (w : ℕ) → has b.supervoxels w ≡ true → leaves_at d b (e ∷ log) (root d b (e ∷ log) w) ≡ component d b (e ∷ log) (top d) w
  unfolding leaves_at
  root_leaves e log legal w hw =
      let whole : List Entry = e ∷ log in
      let test : ℕ → Bool = λ v. eqb (root d b whole v) (root d b whole w) in
      sorted_same (filter test b.supervoxels) (component d b whole (top d) w)
      (differ_filter test (λ x y. x < y) b.supervoxels (ascending_differ b.supervoxels base.ascending))
      (component_differ d b valid base whole (top d) w)
      (λ x h.
      let p = filter_only test b.supervoxels x h in
      to_component d b valid base whole (top d) w x (root_joined d b e log w x valid.layout legal hw p.0 (sym (eqb-true (root d b whole x) (root d b whole w) p.1))))
      (λ x h.
      let p = of_component d b valid base whole (top d) w x h in
      filter_has test b.supervoxels x p.0 (eq-eqb (root d b whole x) (root d b whole w) (sym (joined_root d b e log w x valid.layout legal hw p.2))))

  pub leaves_from : (newer : List Entry) (e : Entry) (log : List Entry) → Legal d b (newer ++ e ∷ log) → (w : ℕ) → has b.supervoxels w ≡ true → is_new d b (e ∷ log) (top d) w ≡ true
      → leaves d b (newer ++ e ∷ log) (root d b (e ∷ log) w) ≡ component d b (e ∷ log) (top d) w
  unfolding leaves
  leaves_from [] e log legal w hw n =
      cond-true (has e.made (root d b (e ∷ log) w)) (leaves_at d b (e ∷ log) (root d b (e ∷ log) w)) (leaves d b log (root d b (e ∷ log) w)) (made_here e log legal w hw n) ∙ root_leaves e log legal w hw
  leaves_from (g ∷ newer) e log legal w hw n =
      let older : List Entry = newer ++ e ∷ log in
      let r : ℕ = root d b (e ∷ log) w in
      cond-false (has g.made r) (leaves_at d b (g ∷ older) r) (leaves d b older r) (not_made_later g newer e log legal w hw) ∙ leaves_from newer e log (rest newer legal) w hw n
    where
      rest : (xs : List Entry) → Legal d b (g ∷ (xs ++ e ∷ log)) → Legal d b (xs ++ e ∷ log)
      rest [] h = h.1
      rest (x ∷ xs) h = h.1

-- the leaves in the record of a root are those that it is answered with
pub leaves_told : (d : Dataset) (b : Base) (log : List Entry) (place v : ℕ) (n : Node) → IsDataset d → IsBase d b → Legal d b log → HoldsNode d b log place n → has b.supervoxels v ≡ true → n.chunk ≡ chunk d (top d) v → n.leaves ≡ leaves d b log n.id
unfolding root
leaves_told d b log place v n valid base legal h hv c =
    let r = node_raised d b valid base log legal place n h in
    let e : Entry = r.entry in
    let older : List Entry = r.older in
    let born = r.born in
    let w : ℕ = born.supervoxel in
    let q : born.layer ≡ top d = same_layer d valid.layout born.layer (top d) w v born.low (layer_low d (top d) (top_in_layers d)) (sym born.in_chunk ∙ c) in
    let named : n.id ≡ node d b (e ∷ older) (top d) w = born.named ∙ ap (λ l. node d b (e ∷ older) l w) q in
    let holds : n.leaves ≡ component d b (e ∷ older) (top d) w = born.holds ∙ ap (λ l. component d b (e ∷ older) l w) q in
    let fresh : is_new d b (e ∷ older) (top d) w ≡ true = subst (λ l. is_new d b (e ∷ older) l w ≡ true) q born.fresh in
    holds ∙ (sym (leaves_from d b valid base r.newer e older (subst (Legal d b) r.whole legal) w born.known fresh)
    ∙ (ap (λ g. leaves d b g (node d b (e ∷ older) (top d) w)) (sym r.whole) ∙ ap (leaves d b log) (sym named)))

-- the record of a supervoxel's node at a prefix has the leaves that are joined to the supervoxel there
pub leaves_joined : (d : Dataset) (b : Base) (log : List Entry) (prefix layer v place : ℕ) (n : Node) → IsDataset d → IsBase d b → Legal d b log → 1 ≤ prefix → HoldsNode d b log place n
    → has (layers d) layer ≡ true → has b.supervoxels v ≡ true → n.id ≡ node d b (log_at d b log prefix) layer v → n.leaves ≡ component d b (log_at d b log prefix) layer v
unfolding log_at
leaves_joined d b log prefix layer v place n valid base legal low h hl hv q =
    go (take k log) (drop k log) (sym (take-append-drop k log)) (some k log (left log legal)) q
  where
    k : ℕ
    k = length log - prefix

    left : (older : List Entry) → Legal d b older → length older - prefix < length older
    left [] l = absurd l
    left (e ∷ older) l = omega arith

    some : (j : ℕ) (older : List Entry) → j < length older → 0 < length (drop j older)
    some j [] l = absurd (omega arith)
    some zero (e ∷ older) l = omega arith
    some (suc j) (e ∷ older) l = some j older (omega arith)

    go : (newer older : List Entry) → log ≡ newer ++ older → 0 < length older → n.id ≡ node d b older layer v → n.leaves ≡ component d b older layer v
    go newer [] e s t = absurd (omega arith)
    go newer (f ∷ older) e s t = record_tells d b valid base newer f older (subst (Legal d b) e legal) place n (subst (λ g. HoldsNode d b g place n) e h) layer v hl hv t
