-- The ends of the supervoxels' edges, with one more edge.
use Rattle.std.proofs.Common.{◌≡◌, ℕ, ◌+◌, ◌*◌, ◌<◌, ◌≤◌, ◌⊎◌, inl, inr, Bool, true, false, ◌||◌, eqb, List, [], ◌∷◌, ◌++◌, length, map, get_or, set, refl, sym, ◌∙◌, ap, subst, arith, append_assoc}
use Rattle.std.proofs.lemmas.List.{get_or-set_same, get_or-set_other, length-set}
use Rattle.std.proofs.lemmas.Bool.{cases_Bool, eqb-true, eqb-false, ne_eqb}
use Rattle.record_rows.specs.Rows.{Row, EdgeRow}
use Rattle.record_rows.specs.Chains.{edge_at, change_of}
use Rattle.op_model.specs.declared.base.Pair.{Pair}
use Rattle.std.specs.List.{list_any}
use Rattle.record_rows.specs.Walks.{is_supervoxel}
use Rattle.row_append.specs.Ends.{Chain, EdgesOf, owns, belongs, has_part, EndsAt, IsHeaded}
use Rattle.row_append.specs.Tails.{word_number}
use Rattle.row_append.specs.declared.tail.Tail.{Tail}
use Rattle.row_append.proofs.EndLaws.{headers_stay, edges_end}
use Rattle.base_rows.specs.declared.lists.BaseEdge.{BaseEdge}
use Rattle.base_rows.specs.Lists.{IsPlaced}
use Rattle.base_rows.specs.States.{AreTails}
use Rattle.base_rows.proofs.TailLists.{tails_told, end_within}
use Rattle.grown_rows.specs.Growths.{Grown, IsGrowth, IsTail}
use Rattle.grown_rows.proofs.Holding.{long as grown_long}
use Rattle.record_rows.specs.Words.{words_of}
use Rattle.entry_rows.specs.States.{ArePointers, Edging}

edge_apart : (u made : ℕ) (x : BaseEdge) → (x.edge.pair.a ≡ u → ⊥) → (x.edge.pair.b ≡ u → ⊥) → has_part (EdgesOf u) (EdgeRow made x.edge) ≡ false
unfolding has_part owns belongs is_supervoxel edge_at
edge_apart u made x f g = rw (ne_eqb x.edge.pair.a u f, ne_eqb x.edge.pair.b u g) refl

-- with one more pointer told anew
pub pointers_set : (tails : List Tail) (j : ℕ) (new : Tail) → j < length tails → ArePointers tails → 4 ≤ new.word → new.word < 8 → ArePointers (set tails j new)
pointers_set tails j new lj are low high i t l = elim (cases_Bool (eqb i j)) [
  | inl e ↦
      let q : i ≡ j = eqb-true i j e in
      let g : get_or (set tails j new) i t ≡ new = ap (λ k. get_or (set tails j new) k t) q ∙ get_or-set_same tails j new t lj in
      (subst (λ (x : Tail). 4 ≤ x.word) (sym g) low, subst (λ (x : Tail). x.word < 8) (sym g) high)
  | inr f ↦
      let g : get_or (set tails j new) i t ≡ get_or tails i t = get_or-set_other tails j i new t (eqb-false i j f) in
      let m : i < length tails = (let n = length-set tails j new in omega arith) in
      (subst (λ (x : Tail). 4 ≤ x.word) (sym g) (are i t m).0, subst (λ (x : Tail). x.word < 8) (sym g) (are i t m).1)
]

module _ (ids : List ℕ) (old more : List Row) (g after : Grown) (tails : List Tail) (x : BaseEdge) (made place : ℕ) (st : Edging ids old more g tails) (p : IsPlaced ids x)
    (here : place ≡ length (old ++ more)) (grown : IsGrowth old (more ++ EdgeRow made x.edge ∷ []) after) where
  abbrev rows : List Row
  rows = old ++ more

  abbrev one : Tail
  one = record { spot = place; word = 5 }

  abbrev two : Tail
  two = record { spot = place; word = 6 }

  abbrev told : List Tail
  told = set (set tails x.lesser one) x.greater two

  headed : IsHeaded (old ++ more)
  headed = headers_stay old more st.growth.headed

  first_long : length (set tails x.lesser one) ≡ length ids
  first_long = length-set tails x.lesser one ∙ st.tails_are.count

  long : length told ≡ length ids
  long = length-set (set tails x.lesser one) x.greater two ∙ first_long

  each : (i : ℕ) (t : Tail) → i < length ids
      → EndsAt (EdgesOf (get_or ids i 0)) (rows ++ EdgeRow made x.edge ∷ []) (word_number (get_or told i t))
      ⊎ ((get_or told i t ≡ get_or tails i t) × (has_part (EdgesOf (get_or ids i 0)) (EdgeRow made x.edge) ≡ false))
  each i t l = elim (cases_Bool (eqb i x.greater)) [
    | inl e ↦
        let q : i ≡ x.greater = eqb-true i x.greater e in
        let h : get_or told x.greater t ≡ two = get_or-set_same (set tails x.lesser one) x.greater two t (omega (arith, first_long, l, q)) in
        let n : 8 * length rows + 6 ≡ word_number two = omega (arith, here) in
        inl (subst (λ k. EndsAt (EdgesOf (get_or ids k 0)) (rows ++ EdgeRow made x.edge ∷ []) (word_number (get_or told k t))) (sym q)
        (subst (λ y. EndsAt (EdgesOf (get_or ids x.greater 0)) (rows ++ EdgeRow made x.edge ∷ []) (word_number y)) (sym h)
        (subst (λ v. EndsAt (EdgesOf v) (rows ++ EdgeRow made x.edge ∷ []) (word_number two)) (sym p.greater_is)
        (subst (EndsAt (EdgesOf x.edge.pair.b) (rows ++ EdgeRow made x.edge ∷ [])) n (edges_end rows made x.edge headed p.differ).1))))
    | inr f ↦ other f (cases_Bool (eqb i x.lesser))
  ]
    where
      other : eqb i x.greater ≡ false → (eqb i x.lesser ≡ true) ⊎ (eqb i x.lesser ≡ false)
          → EndsAt (EdgesOf (get_or ids i 0)) (rows ++ EdgeRow made x.edge ∷ []) (word_number (get_or told i t))
          ⊎ ((get_or told i t ≡ get_or tails i t) × (has_part (EdgesOf (get_or ids i 0)) (EdgeRow made x.edge) ≡ false))
      other f (inl e) =
          let q : i ≡ x.lesser = eqb-true i x.lesser e in
          let h : get_or told i t ≡ get_or (set tails x.lesser one) i t = get_or-set_other (set tails x.lesser one) x.greater i two t (eqb-false i x.greater f) in
          let k : get_or (set tails x.lesser one) x.lesser t ≡ one = get_or-set_same tails x.lesser one t (let c = st.tails_are.count in omega (arith, c, l, q)) in
          let m : get_or told i t ≡ one = h ∙ (ap (λ z. get_or (set tails x.lesser one) z t) q ∙ k) in
          let n : 8 * length rows + 5 ≡ word_number one = omega (arith, here) in
          inl (subst (λ y. EndsAt (EdgesOf (get_or ids i 0)) (rows ++ EdgeRow made x.edge ∷ []) (word_number y)) (sym m)
          (subst (λ v. EndsAt (EdgesOf v) (rows ++ EdgeRow made x.edge ∷ []) (word_number one)) (sym (ap (λ z. get_or ids z 0) q ∙ p.lesser_is))
          (subst (EndsAt (EdgesOf x.edge.pair.a) (rows ++ EdgeRow made x.edge ∷ [])) n (edges_end rows made x.edge headed p.differ).0)))
      other f (inr e) =
          let a = eqb-false i x.greater f in
          let c = eqb-false i x.lesser e in
          inr (
            get_or-set_other (set tails x.lesser one) x.greater i two t a ∙ get_or-set_other tails x.lesser i one t c,
            edge_apart (get_or ids i 0) made x (λ q. c (st.once i x.lesser l p.lesser (sym q ∙ sym p.lesser_is))) (λ q. a (st.once i x.greater l p.greater (sym q ∙ sym p.greater_is))),
          )

  -- with one more edge
  pub edge_more : Edging ids old (more ++ EdgeRow made x.edge ∷ []) after (set (set tails x.lesser (record { spot = place; word = 5 })) x.greater (record { spot = place; word = 6 }))
  edge_more = record {
    growth = grown;
    once = st.once;
    tails_are = subst (λ rs. AreTails EdgesOf ids rs told) (append_assoc old more (EdgeRow made x.edge ∷ []))
        (tails_told EdgesOf ids rows (EdgeRow made x.edge) tails told headed st.tails_are long each);
    pointers = pointers_set (set tails x.lesser one) x.greater two (let n = first_long in let l = p.greater in omega arith)
        (pointers_set tails x.lesser one (let n = st.tails_are.count in let l = p.lesser in omega arith) st.pointers (omega arith) (omega arith)) (omega arith) (omega arith);
  }

-- how many words there are
pub words_count : (old more : List Row) (g : Grown) → IsGrowth old more g → length (words_of (old ++ more)) ≡ 8 * g.tail + length g.more
words_count old more g is = sym (ap length is.stands) ∙ grown_long (words_of old) g is.held

-- where a chain ends is a pointer of a record that is there
pub tail_is : (chain : ℕ → Chain) (ids : List ℕ) (old more : List Row) (g : Grown) (tails : List Tail) (i : ℕ) (t : Tail) → IsGrowth old more g → AreTails chain ids (old ++ more) tails → ArePointers tails
    → i < length ids → t ≡ get_or tails i t → IsTail g t
tail_is chain ids old more g tails i t is are pointers l e =
    let m : i < length tails = (let n = are.count in omega arith) in
    let w : word_number t < length (words_of (old ++ more)) = end_within chain ids (old ++ more) (words_of (old ++ more)) tails i t are refl l e in
    let c = words_count old more g is in
    (subst (λ (x : Tail). 4 ≤ x.word) (sym e) (pointers i t m).0, subst (λ (x : Tail). x.word < 8) (sym e) (pointers i t m).1, omega arith)

-- edges are no changes
pub none_both : (test : Row → Bool) (xs ys : List Row) → list_any test xs ≡ false → list_any test ys ≡ false → list_any test (xs ++ ys) ≡ false
none_both test [] ys f g = g
none_both test (x ∷ xs) ys f g = go (test x) f (λ e. none_both test xs ys e g)
  where
    go : (b : Bool) → (b || list_any test xs) ≡ false → (list_any test xs ≡ false → list_any test (xs ++ ys) ≡ false) → (b || list_any test (xs ++ ys)) ≡ false
    go true e h = e
    go false e h = h e

no_change : (p : Pair) (made : ℕ) (xs : List BaseEdge) → list_any (change_of p) (map (λ (x : BaseEdge). EdgeRow made x.edge) xs) ≡ false
unfolding change_of
no_change p made [] = refl
no_change p made (x ∷ xs) = no_change p made xs

pub no_change_more : (p : Pair) (old more : List Row) (made : ℕ) (xs : List BaseEdge) → list_any (change_of p) (old ++ more) ≡ false
    → list_any (change_of p) (old ++ (more ++ map (λ (x : BaseEdge). EdgeRow made x.edge) xs)) ≡ false
no_change_more p old more made xs n =
    subst (λ rs. list_any (change_of p) rs ≡ false) (append_assoc old more (map (λ (x : BaseEdge). EdgeRow made x.edge) xs))
    (none_both (change_of p) (old ++ more) (map (λ (x : BaseEdge). EdgeRow made x.edge) xs) n (no_change p made xs))
