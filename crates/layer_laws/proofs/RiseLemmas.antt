-- What leads out of a chunk is passed upwards, and tells what meets.
use Rattle.std.specs.Prelude.{nat_lt}
use Rattle.std.proofs.Common.{◌≡◌, ℕ, ◌-◌, ◌^◌, ◌<◌, ◌≤◌, Bool, true, false, cond, ◌&&◌, ◌||◌, eqb, List, [], ◌∷◌, refl, sym, ◌∙◌, ap, subst, ◌↔◌, inl, inr, ◌⊎◌, arith, eq-eqb, IsTrue}
use Rattle.std.specs.List.{list_any, filter}
use Rattle.std.proofs.lemmas.Bool.{false≢true, eqb-true, and_parts, and_from, or_cases, or_left, or_right, ltb-true, lt-ltb}
use Rattle.node_ids.specs.Ids.{IsLayout}
use Rattle.op_model.specs.declared.base.Dataset.{Dataset}
use Rattle.op_model.specs.declared.base.Base.{Base}
use Rattle.op_model.specs.declared.base.Pair.{Pair}
use Rattle.op_model.specs.declared.base.Edge.{Edge}
use Rattle.op_model.specs.declared.entry.Entry.{Entry}
use Rattle.graph_model.specs.Lists.{has}
use Rattle.op_model.specs.Edges.{joins, linked}
use Rattle.op_model.specs.Labels.{edges}
use Rattle.graph_model.proofs.ListLemmas.{same_bool}
use Rattle.layer_laws.specs.Levels.{level, leaves, meets, leads_out, leaving}
use Rattle.layer_laws.proofs.LevelLemmas.{level_chunk, level_bounds}
use Rattle.layer_laws.proofs.StepLemmas.{leaves_iff, leaves_self, leaves_above, joined_known, joined_trans, meets_link, meets_from}

any_where : (s t : Edge → Bool) (xs : List Edge) → list_any t (filter s xs) ≡ list_any (λ e. s e && t e) xs
any_where s t [] = refl
any_where s t (x ∷ xs) = go (s x) (any_where s t xs)
  where
    go : (k : Bool) → list_any t (filter s xs) ≡ list_any (λ e. s e && t e) xs → list_any t (cond k (x ∷ filter s xs) (filter s xs)) ≡ ((k && t x) || list_any (λ e. s e && t e) xs)
    go true ih = ap (λ z. t x || z) ih
    go false ih = ih

any_step : (s t : Edge → Bool) (xs : List Edge) → ((e : Edge) → s e ≡ true → t e ≡ true) → list_any s xs ≡ true → list_any t xs ≡ true
any_step s t [] f h = absurd (false≢true h)
any_step s t (x ∷ xs) f h = elim (or_cases (s x) (list_any s xs) h) [ inl k ↦ or_left (t x) _ (f x k) | inr k ↦ or_right (t x) _ (any_step s t xs f k) ]

any_find : (s : Edge → Bool) (xs : List Edge) → list_any s xs ≡ true → (e : Edge) × (s e ≡ true)
any_find s [] h = absurd (false≢true h)
any_find s (x ∷ xs) h = elim (or_cases (s x) (list_any s xs) h) [ inl k ↦ (x, k) | inr k ↦ any_find s xs k ]

pub joins_cases : (p : Pair) (u v : ℕ) → joins p u v ≡ true → ((p.a ≡ u) × (p.b ≡ v)) ⊎ ((p.a ≡ v) × (p.b ≡ u))
unfolding joins
joins_cases p u v h =
    elim (or_cases (eqb p.a u && eqb p.b v) (eqb p.a v && eqb p.b u) h) [
      | inl e ↦ let q = and_parts (eqb p.a u) (eqb p.b v) e in inl (eqb-true p.a u q.0, eqb-true p.b v q.1)
      | inr e ↦ let q = and_parts (eqb p.a v) (eqb p.b u) e in inr (eqb-true p.a v q.0, eqb-true p.b u q.1)
    ]

joins_end : (p : Pair) (u v : ℕ) (xs : List ℕ) → joins p u v ≡ true → has xs u ≡ true → (has xs p.a || has xs p.b) ≡ true
joins_end p u v xs j h =
    elim (joins_cases p u v j) [
      | inl q ↦ or_left (has xs p.a) (has xs p.b) (subst (λ x. has xs x ≡ true) (sym q.0) h)
      | inr q ↦ or_right (has xs p.a) (has xs p.b) (subst (λ x. has xs x ≡ true) (sym q.1) h)
    ]

module _ (d : Dataset) (is : IsLayout d.layout) where
  level_le : (u v : ℕ) → level d u v ≤ level d v u
  level_le u v =
      let m = level_bounds d is v u in
      let e = (level_chunk d is (level d v u) v u m.0 (omega arith)).1 (omega arith) in
      (level_chunk d is (level d v u) u v m.0 (omega arith)).0 (sym e)

  pub level_sym : (u v : ℕ) → level d u v ≡ level d v u
  level_sym u v = let x = level_le u v in let y = level_le v u in omega arith

  pair_level : (p : Pair) (u v : ℕ) → joins p u v ≡ true → level d p.a p.b ≡ level d u v
  pair_level p u v j =
      elim (joins_cases p u v j) [
        | inl q ↦ ap (λ x. level d x p.b) q.0 ∙ ap (λ x. level d u x) q.1
        | inr q ↦ ap (λ x. level d x p.b) q.0 ∙ (ap (λ x. level d v x) q.1 ∙ level_sym v u)
      ]

module _ (d : Dataset) (b : Base) (is : IsLayout d.layout) (log : List Entry) (l : ℕ) (two : 2 ≤ l) where
  -- what leads out of a node tells what its leaves meet
  pub told_by_edges : (u v w : ℕ) → has (leaves d b log (l - 1) w) u ≡ true
      → meets d b log l u v ≡ list_any (λ e. joins e.pair u v && eqb (level d e.pair.a e.pair.b) l) (leaving d b log (l - 1) w)
  unfolding leaving leads_out linked
  told_by_edges u v w h = same_bool _ _ there back
    where
      here : Edge → Bool
      here e = joins e.pair u v && eqb (level d e.pair.a e.pair.b) l

      out : Edge → Bool
      out e = leads_out d b log (l - 1) w e

      here_out : (e : Edge) → level d u v ≡ l → (e.active && joins e.pair u v) ≡ true → (out e && here e) ≡ true
      here_out e q k =
          let p = and_parts e.active (joins e.pair u v) k in
          let m : level d e.pair.a e.pair.b ≡ l = pair_level d is e.pair u v p.1 ∙ q in
          and_from (out e) (here e)
          (and_from _ _ (and_from e.active _ p.0 (lt-ltb (l - 1) (level d e.pair.a e.pair.b) (omega arith))) (joins_end e.pair u v (leaves d b log (l - 1) w) p.1 h))
          (and_from _ _ p.1 (eq-eqb (level d e.pair.a e.pair.b) l m))

      there : meets d b log l u v ≡ true → list_any here (filter out (edges d b log)) ≡ true
      there m =
          let p = meets_link d b is log l u v m in
          any_where out here (edges d b log)
          ∙ any_step (λ e. e.active && joins e.pair u v) (λ e. out e && here e) (edges d b log) (λ e k. here_out e p.1 k) p.0

      link : (e : Edge) → (out e && here e) ≡ true → (e.active && joins e.pair u v) ≡ true
      link e k =
          let p = and_parts (out e) (here e) k in
          let q = and_parts (e.active && nat_lt (l - 1) (level d e.pair.a e.pair.b)) _ p.0 in
          and_from _ _ (and_parts e.active _ q.0).0 (and_parts (joins e.pair u v) _ p.1).0

      levels : (e : Edge) → (out e && here e) ≡ true → level d u v ≡ l
      levels e k =
          let p = and_parts (joins e.pair u v) _ (and_parts (out e) (here e) k).1 in
          sym (pair_level d is e.pair u v p.0) ∙ eqb-true (level d e.pair.a e.pair.b) l p.1

      back : list_any here (filter out (edges d b log)) ≡ true → meets d b log l u v ≡ true
      back k =
          let n : list_any (λ e. out e && here e) (edges d b log) ≡ true = sym (any_where out here (edges d b log)) ∙ k in
          let f = any_find (λ e. out e && here e) (edges d b log) n in
          meets_from d b is log l u v (any_step (λ e. out e && here e) (λ e. e.active && joins e.pair u v) (edges d b log) link n) (levels f.0 f.1)

  module _ (low : l < 2 ^ 8) where
    -- what leads out of a node is what leads out of a node below it and out of this chunk
    pub out_above : (v : ℕ) (e : Edge) → has b.supervoxels v ≡ true → has b.supervoxels e.pair.a ≡ true → has b.supervoxels e.pair.b ≡ true
        → IsTrue (leads_out d b log l v e) ↔ ((w : ℕ) × IsTrue (has (leaves d b log l v) w) × IsTrue (leads_out d b log (l - 1) w e) × (l < level d e.pair.a e.pair.b))
    unfolding leads_out
    out_above v e hv ha hb = (up, down)
      where
        far : ℕ → Bool
        far k = e.active && nat_lt k (level d e.pair.a e.pair.b)

        out_from : (w : ℕ) → e.active ≡ true → l < level d e.pair.a e.pair.b → has (leaves d b log l v) w ≡ true → (has (leaves d b log (l - 1) w) e.pair.a || has (leaves d b log (l - 1) w) e.pair.b) ≡ true
            → (w : ℕ) × IsTrue (has (leaves d b log l v) w) × IsTrue (leads_out d b log (l - 1) w e) × (l < level d e.pair.a e.pair.b)
        out_from w act m h k = (w, h, and_from _ _ (and_from e.active _ act (lt-ltb (l - 1) (level d e.pair.a e.pair.b) (omega arith))) k, m)

        up : leads_out d b log l v e ≡ true → (w : ℕ) × IsTrue (has (leaves d b log l v) w) × IsTrue (leads_out d b log (l - 1) w e) × (l < level d e.pair.a e.pair.b)
        up k =
            let p = and_parts (far l) (has (leaves d b log l v) e.pair.a || has (leaves d b log l v) e.pair.b) k in
            let q = and_parts e.active (nat_lt l (level d e.pair.a e.pair.b)) p.0 in
            let m = ltb-true l (level d e.pair.a e.pair.b) q.1 in
            elim (or_cases (has (leaves d b log l v) e.pair.a) (has (leaves d b log l v) e.pair.b) p.1) [
              | inl h ↦ out_from e.pair.a q.0 m h (or_left _ _ (leaves_self d b is log (l - 1) e.pair.a ha))
              | inr h ↦ out_from e.pair.b q.0 m h (or_right (has (leaves d b log (l - 1) e.pair.b) e.pair.a) _ (leaves_self d b is log (l - 1) e.pair.b hb))
            ]

        rise : (w x : ℕ) → has (leaves d b log l v) w ≡ true → has (leaves d b log (l - 1) w) x ≡ true → has (leaves d b log l v) x ≡ true
        rise w x h k =
            let j = (leaves_iff d b is log l v w two).0 h in
            let kn = joined_known d b is log l v w j in
            (leaves_iff d b is log l v x two).1 (joined_trans d b is log l v w x j (leaves_above d b is log l w x two low kn.1 k))

        down : (w : ℕ) × IsTrue (has (leaves d b log l v) w) × IsTrue (leads_out d b log (l - 1) w e) × (l < level d e.pair.a e.pair.b) → leads_out d b log l v e ≡ true
        down r =
            let p = and_parts (far (l - 1)) (has (leaves d b log (l - 1) r.0) e.pair.a || has (leaves d b log (l - 1) r.0) e.pair.b) r.2 in
            let act = (and_parts e.active (nat_lt (l - 1) (level d e.pair.a e.pair.b)) p.0).0 in
            and_from (far l) _ (and_from e.active _ act (lt-ltb l (level d e.pair.a e.pair.b) r.3))
            (elim (or_cases (has (leaves d b log (l - 1) r.0) e.pair.a) (has (leaves d b log (l - 1) r.0) e.pair.b) p.1) [
              | inl k ↦ or_left _ _ (rise r.0 e.pair.a r.1 k)
              | inr k ↦ or_right (has (leaves d b log l v) e.pair.a) _ (rise r.0 e.pair.b r.1 k)
            ])

    -- an edge that leads out of a node has one end in it alone
    pub one_end : (v : ℕ) (e : Edge) → leads_out d b log l v e ≡ true → has (leaves d b log l v) e.pair.a ≡ true → has (leaves d b log l v) e.pair.b ≡ true → ⊥
    unfolding leads_out
    one_end v e k ha hb =
        let p = and_parts (e.active && nat_lt l (level d e.pair.a e.pair.b)) (has (leaves d b log l v) e.pair.a || has (leaves d b log l v) e.pair.b) k in
        let m = ltb-true l (level d e.pair.a e.pair.b) (and_parts e.active (nat_lt l (level d e.pair.a e.pair.b)) p.0).1 in
        let ca = (joined_known d b is log l v e.pair.a ((leaves_iff d b is log l v e.pair.a two).0 ha)).2 in
        let cb = (joined_known d b is log l v e.pair.b ((leaves_iff d b is log l v e.pair.b two).0 hb)).2 in
        let n = (level_chunk d is l e.pair.a e.pair.b two low).0 (sym ca ∙ cb) in
        omega arith
