-- The places of some members of an ascending list.
use Rattle.std.proofs.Common.{◌≡◌, ℕ, ◌+◌, ◌<◌, true, List, [], ◌∷◌, ◌++◌, length, map, take, get_or, refl, sym, ◌∙◌, ap, subst, inl, inr, arith}
use Rattle.std.specs.List.{All}
use Rattle.std.proofs.lemmas.Bool.{cases_lt}
use Rattle.std.proofs.lemmas.List.{map-append}
use Rattle.std.proofs.lemmas.List.Elements.{All-from_recursion}
use Rattle.std.specs.List.{AllByRecursion}
use Rattle.graph_model.specs.Lists.{has}
use Rattle.graph_model.proofs.ListLemmas.{has_head, has_tail}
use Rattle.op_model.specs.declared.entry.Changed.{Changed}
use Rattle.op_model.specs.Operations.{ends}
use Rattle.op_model.specs.Valid.{IsAscending}
use Rattle.layer_laws.proofs.PlaceLemmas.{at_order}
use Rattle.octree_layers.specs.Places.{place_of}
use Rattle.octree_layers.proofs.Placing.{place_at}
use Rattle.entry_parts.specs.Parts.{AreEndsAt}
use Rattle.touched_paths.proofs.Covering.{take_more}

pub places_more : (ids found old new : List ℕ) (i x at : ℕ) → i < length found → x ≡ get_or found i x → at ≡ place_of ids x → old ≡ map (place_of ids) (take i found) → new ≡ old ++ at ∷ []
    → new ≡ map (place_of ids) (take (i + 1) found)
places_more ids found old new i x at l e q o n =
    n
    ∙ (ap (λ xs. xs ++ at ∷ []) o
    ∙ (ap (λ y. map (place_of ids) (take i found) ++ y ∷ []) q
    ∙ (sym (map-append (place_of ids) (take i found) (x ∷ [])) ∙ ap (map (place_of ids)) (sym (take_more found i x l e)))))

module _ (ids : List ℕ) (ascends : IsAscending ids) where
  places_rise : (found : List ℕ) → IsAscending found → ((v : ℕ) → has found v ≡ true → has ids v ≡ true) → IsAscending (map (place_of ids) found)
  places_rise [] a k = tt
  places_rise (x ∷ []) a k = tt
  places_rise (x ∷ y ∷ found) a k = (
    less,
    places_rise (y ∷ found) a.1 (λ v h. k v (has_tail x (y ∷ found) v h)),
  )
    where
      less : place_of ids x < place_of ids y
      less = elim (cases_lt (place_of ids x) (place_of ids y)) [
        | inl l ↦ l
        | inr m ↦
            let p = place_at ids x (k x (has_head x (y ∷ found))) in
            let q = place_at ids y (k y (has_tail x (y ∷ found) y (has_head y found))) in
            let o = at_order ids (place_of ids y) (place_of ids x) ascends m p.0 in
            let s = p.1 in
            let t = q.1 in
            let l = a.0 in
            absurd (omega (arith, o, s, t, l))
      ]

  places_low : (found : List ℕ) → ((v : ℕ) → has found v ≡ true → has ids v ≡ true) → AllByRecursion (λ p. p < length ids) (map (place_of ids) found)
  places_low [] k = tt
  places_low (x ∷ found) k = ((place_at ids x (k x (has_head x found))).0, places_low found (λ v h. k v (has_tail x found v h)))

  places_back : (found : List ℕ) → ((v : ℕ) → has found v ≡ true → has ids v ≡ true) → map (λ p. get_or ids p 0) (map (place_of ids) found) ≡ found
  places_back [] k = refl
  places_back (x ∷ found) k =
      let p = (place_at ids x (k x (has_head x found))).1 in
      let q = places_back found (λ v h. k v (has_tail x found v h)) in
      cc

  pub ends_at : (cs : List Changed) (found xs places : List ℕ) → IsAscending found → ((v : ℕ) → has found v ≡ has (ends cs) v) → ((v : ℕ) → has (ends cs) v ≡ true → has ids v ≡ true) → xs ≡ found
      → places ≡ map (place_of ids) xs → AreEndsAt ids cs places
  ends_at cs found xs places a same k x e =
      let known : (v : ℕ) → has found v ≡ true → has ids v ≡ true = λ v h. k v (sym (same v) ∙ h) in
      let is : places ≡ map (place_of ids) found = e ∙ ap (map (place_of ids)) x in
      record {
        ascending = subst (λ ps. IsAscending ps) (sym is) (places_rise found a known);
        small = subst (λ ps. All (λ p. p < length ids) ps) (sym is) (All-from_recursion (λ p. p < length ids) (map (place_of ids) found) (places_low found known));
        all = λ v.
            let back : has (map (λ p. get_or ids p 0) places) v ≡ has (ends cs) v = ap (λ ps. has (map (λ p. get_or ids p 0) ps) v) is ∙ (ap (λ ys. has ys v) (places_back found known) ∙ same v) in
            ((λ h. back ∙ h), (λ h. sym back ∙ h));
      }
