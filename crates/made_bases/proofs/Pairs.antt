-- The records of the edge table, read in turn.
use Rattle.std.proofs.Common.{◌≡◌, ◌∙◌, ℕ, zero, suc, ◌^◌, ◌<◌, ◌≤◌, ◌⊎◌, inl, inr, Bool, cond, true, false, not, ◌&&◌, ◌||◌, eqb, ltb, leb, eqb-true, eq-eqb, lt-ltb, le-leb, bytes_eq, codes, decimal, List, [], ◌∷◌, map, Some, None, Ok, Err, refl, sym, ap, ap₂, arith}
use Rattle.std.specs.List.{AllByRecursion}
use Rattle.std.proofs.lemmas.Bool.{and_parts, cases_lt}
use Rattle.std.proofs.lemmas.List.{map-append}
use Rattle.std.proofs.lemmas.List.Folds.{list_any-append}
use Rattle.std.proofs.lemmas.Slice.Eq.{bytes_eq-Decides}
use Rattle.csv.specs.Records.{field_at}
use Rattle.node_ids.specs.Digits.{number_of}
use Rattle.node_ids.proofs.DigitLemmas.{read_back}
use Rattle.op_model.specs.Lists.{has}
use Rattle.op_model.specs.declared.base.Pair.{Pair}
use Rattle.op_model.specs.declared.base.Weight.TheVariants.{Affinity}
use Rattle.op_model.specs.Edges.{pair_of, same_pair}
use Rattle.table_ingest.specs.Edges.{edge_of, edge_with, has_pair, pair_in, state_of, weight_of}
use Rattle.table_ingest.specs.Faults.{◌>>=◌, only_if}
use Rattle.table_ingest.specs.Records.{field}
use Rattle.table_ingest.specs.declared.errors.Cause.TheVariants as cause
use Rattle.made_input.specs.Edges.{IsWish, supervoxel}
use Rattle.made_input.specs.Texts.{edge_fields, numbers_below}
use Rattle.made_input.specs.declared.edges.MadeEdge.{MadeEdge}
use Rattle.made_input.specs.declared.wish.Wish.{Wish}
use Rattle.made_input.proofs.Plain.{id_small}
use Rattle.made_bases.proofs.Apart.{id_same, ids_apart}
use Rattle.made_bases.specs.Laws.{as_edge}

-- ---- pairs

eqb_turned : (u v : ℕ) → eqb u v ≡ eqb v u
eqb_turned u v = grind arith

pair_differs : (u v : ℕ) → eqb u v ≡ false → eqb (pair_of u v).a (pair_of u v).b ≡ false
unfolding pair_of
pair_differs u v e = go (ltb u v)
  where
    made : Bool → Pair
    made b = cond b (record { a = u; b = v }) (record { a = v; b = u })

    go : (b : Bool) → eqb (made b).a (made b).b ≡ false
    go true = e
    go false = eqb_turned v u ∙ e

pair_there : (known : List ℕ) (u v : ℕ) → has known u ≡ true → has known v ≡ true → (has known (pair_of u v).a && has known (pair_of u v).b) ≡ true
unfolding pair_of
pair_there known u v hu hv = go (ltb u v)
  where
    made : Bool → Pair
    made b = cond b (record { a = u; b = v }) (record { a = v; b = u })

    go : (b : Bool) → (has known (made b).a && has known (made b).b) ≡ true
    go true = ap₂ (λ x y. x && y) hu hv
    go false = ap₂ (λ x y. x && y) hv hu

abbrev Ends : ℕ → ℕ → ℕ → ℕ → Type 0
Ends a b c d = ((a ≡ c) × (b ≡ d)) ⊎ ((a ≡ d) × (b ≡ c))

pair_ends : (a b c d : ℕ) → same_pair (pair_of a b) (pair_of c d) ≡ true → Ends a b c d
unfolding pair_of same_pair
pair_ends a b c d e = go (ltb a b) (ltb c d) e
  where
    made : ℕ → ℕ → Bool → Pair
    made u v t = cond t (record { a = u; b = v }) (record { a = v; b = u })

    two : (x y z t : ℕ) → (eqb x y && eqb z t) ≡ true → (x ≡ y) × (z ≡ t)
    two x y z t h = let p = and_parts (eqb x y) (eqb z t) h in (eqb-true x y p.0, eqb-true z t p.1)

    go : (s t : Bool) → (eqb (made a b s).a (made c d t).a && eqb (made a b s).b (made c d t).b) ≡ true → Ends a b c d
    go true true h = inl (two a c b d h)
    go true false h = inr (two a d b c h)
    go false true h = let p = two b c a d h in inr (p.1, p.0)
    go false false h = let p = two b d a c h in inl (p.1, p.0)

-- ---- ids

module _ (w : Wish) (ok : IsWish w) where
  abbrev id : ℕ → ℕ
  id k = supervoxel w k

  abbrev pub known : List ℕ
  known = map id (numbers_below w.size)

  there_below : (i k : ℕ) → k < i → has (map id (numbers_below i)) (id k) ≡ true
  unfolding numbers_below
  there_below zero k lt = absurd (omega (arith, lt))
  there_below (suc i) k lt =
      ap (λ xs. has xs (id k)) (map-append id (numbers_below i) (i ∷ [])) ∙ list_any-append (λ y. eqb y (id k)) (map id (numbers_below i)) (id i ∷ [])
      ∙ elim (cases_lt k i) [
        | inl less ↦ ap (λ b. b || (eqb (id i) (id k) || false)) (there_below i k less)
        | inr last ↦ or_last (has (map id (numbers_below i)) (id k)) (eqb (id i) (id k)) (eq-eqb (id i) (id k) (ap id (omega (arith, last, lt))))
      ]
    where
      or_last : (a b : Bool) → b ≡ true → (a || (b || false)) ≡ true
      or_last true b e = refl
      or_last false b e = ap (λ x. x || false) e

  -- ---- one record

  -- an edge of the supervoxels, whose later end has the greater number
  abbrev pub IsLaid : MadeEdge → Type 0
  IsLaid e = (e.a < e.b) × (e.b < w.size) × (1 ≤ e.affinity) × (e.affinity ≤ 100)

  abbrev pub Differs : MadeEdge → MadeEdge → Type 0
  Differs e f = f.a ≡ e.a → f.b ≡ e.b → ⊥

  pairs_apart : (e f : MadeEdge) → IsLaid e → IsLaid f → Differs e f → same_pair (pair_of (id f.a) (id f.b)) (pair_of (id e.a) (id e.b)) ≡ false
  pairs_apart e f le lf apart = go (same_pair (pair_of (id f.a) (id f.b)) (pair_of (id e.a) (id e.b))) refl
    where
      go : (b : Bool) → same_pair (pair_of (id f.a) (id f.b)) (pair_of (id e.a) (id e.b)) ≡ b → b ≡ false
      go false h = refl
      go true h = elim (pair_ends (id f.a) (id f.b) (id e.a) (id e.b) h) [
        | inl p ↦ absurd (apart (id_same w ok f.a e.a (omega (arith, lf.0, lf.1)) (omega (arith, le.0, le.1)) p.0) (id_same w ok f.b e.b lf.1 le.1 p.1))
        | inr p ↦ absurd (omega (arith, id_same w ok f.a e.b (omega (arith, lf.0, lf.1)) le.1 p.0, id_same w ok f.b e.a lf.1 (omega (arith, le.0, le.1)) p.1, lf.0, le.0))
      ]

  pair_fresh : (es : List MadeEdge) (e : MadeEdge) → IsLaid e → AllByRecursion (λ f. IsLaid f × Differs e f) es → has_pair (map (as_edge w) es) (pair_of (id e.a) (id e.b)) ≡ false
  pair_fresh [] e le h = refl
  pair_fresh (f ∷ es) e le h = ap₂ (λ a b. a || b) (pairs_apart e f le h.0.0 h.0.1) (pair_fresh es e le h.1)

  no_glue : (n : ℕ) → n < 2 ^ 64 → bytes_eq (decimal n) (codes "glue") ≡ false
  unfolding number_of
  no_glue n lt = go (bytes_eq (decimal n) (codes "glue")) refl
    where
      go : (b : Bool) → bytes_eq (decimal n) (codes "glue") ≡ b → b ≡ false
      go false e = refl
      go true e =
          let none : number_of (codes "glue") ≡ None = refl in
          cc (sym none ∙ sym (ap number_of ((bytes_eq-Decides (decimal n) (codes "glue")).0 e)) ∙ read_back n lt)

  weighed : (n : ℕ) → 1 ≤ n → n ≤ 100 → weight_of (decimal n) ≡ Some (Affinity n)
  unfolding weight_of
  weighed n low high =
      let a : leb 1 n ≡ true = le-leb 1 n low in
      let b : ltb n (2 ^ 32) ≡ true = lt-ltb n (2 ^ 32) (omega (arith, high)) in
      rw (no_glue n (omega (arith, high)), read_back n (omega (arith, high)), a, b) refl

  stated : (b : Bool) → state_of (cond b (codes "1") (codes "0")) ≡ Some b
  unfolding state_of
  stated true = refl
  stated false = refl

  pair_read : (e : MadeEdge) → IsLaid e → pair_in known (edge_fields w e) ≡ Ok (pair_of (id e.a) (id e.b))
  unfolding pair_in edge_fields field field_at
  pair_read e l =
      let p = pair_of (id e.a) (id e.b) in
      let a : e.a < w.size = omega (arith, l.0, l.1) in
      let there : (has known p.a && has known p.b) ≡ true = pair_there known (id e.a) (id e.b) (there_below w.size e.a a) (there_below w.size e.b l.1) in
      let differ : eqb p.a p.b ≡ false = pair_differs (id e.a) (id e.b) (ids_apart w ok e.a e.b l.0 l.1) in
      rw (read_back (id e.a) (id_small w ok e.a a), read_back (id e.b) (id_small w ok e.b l.1), there, differ) refl

  rest_read : (e : MadeEdge) → IsLaid e → edge_with (edge_fields w e) (pair_of (id e.a) (id e.b)) ≡ Ok (as_edge w e)
  unfolding edge_with edge_fields field field_at
  rest_read e l = rw (weighed e.affinity l.2 l.3, stated e.active) refl

  pub edge_read : (before : List MadeEdge) (e : MadeEdge) → IsLaid e → AllByRecursion (λ f. IsLaid f × Differs e f) before
      → edge_of known (map (as_edge w) before) (edge_fields w e) ≡ Ok (as_edge w e)
  unfolding edge_of
  edge_read before e l h =
      ap (λ r. r >>= only_if (λ p. not (has_pair (map (as_edge w) before) p)) cause.DoubleEdge >>= edge_with (edge_fields w e)) (pair_read e l)
      ∙ ap (λ b. cond (not b) (Ok (pair_of (id e.a) (id e.b))) (Err cause.DoubleEdge) >>= edge_with (edge_fields w e)) (pair_fresh before e l h)
      ∙ rest_read e l
