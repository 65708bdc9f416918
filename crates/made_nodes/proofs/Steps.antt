-- One step of each loop over the new nodes of a layer.
use Rattle.std.proofs.Common.{◌≡◌, ℕ, zero, suc, ◌+◌, ◌-◌, ◌^◌, ◌<◌, ◌≤◌, Bool, true, false, cond, eqb, leb, List, [], ◌∷◌, ◌++◌, length, map, take, drop, get_or, Some, None, refl, sym, ◌∙◌, ap, subst, arith, add-one, append-nil, append_assoc}
use Rattle.std.proofs.Math.Seq.{take-suc}
use Rattle.std.proofs.lemmas.List.{at_drop_more, map-append}
use Rattle.std.specs.List.{All, AllByRecursion}
use Rattle.octree_layers.proofs.Steps.{none_left}
use Rattle.layer_laws.specs.Building.{at}
use Rattle.entry_parts.specs.declared.made.MadeNode.{MadeNode}
use Rattle.made_nodes.specs.declared.owning.Owner.{Owner}
use Rattle.made_nodes.specs.Numbers.{number_behind, numbered, first_spent}

-- the values of one number more
pub numbers_pushed : {Y : Type 0} (f : ℕ → Y) (xs : List ℕ) (i : ℕ) (ys zs : List Y) → i < length xs → ys ≡ map f (take i xs) → zs ≡ ys ++ f (get_or xs i 0) ∷ [] → zs ≡ map f (take (i + 1) xs)
numbers_pushed f xs i ys zs l h p =
    p ∙ (ap (λ us. us ++ f (get_or xs i 0) ∷ []) h ∙ (sym (map-append f (take i xs) (get_or xs i 0 ∷ [])) ∙ ap (map f) (sym (rw add-one (take-suc xs i 0 l)))))

-- what stands at a place within the list, whatever stands for others
pub at_default : (xs : List ℕ) (i x : ℕ) → i < length xs → x ≡ get_or xs i x → x ≡ get_or xs i 0
at_default [] i x l e = absurd (omega arith)
at_default (y ∷ ys) zero x l e = e
at_default (y ∷ ys) (suc i) x l e = at_default ys i x (omega arith) e

pub low_at : (n : ℕ) (os : List Owner) (j : ℕ) (o : Owner) → All (λ (x : Owner). x.least < n) os → j < length os → o ≡ get_or os j o → o.least < n
low_at n os j o all l is = subst (λ (x : Owner). x.least < n) (sym is) (all j o l)

module _ (used : ℕ → ℕ) (ids : List ℕ) where
  more : (last number : ℕ) (os : List Owner) (i : ℕ) (o : Owner) (n : ℕ) → i < length os → o ≡ get_or os i o → n ≡ number_behind used last number o.chunk
      → numbered used ids last number (drop i os) ≡ record { id = o.chunk + n; chunk = o.chunk; least = get_or ids o.least 0 } ∷ numbered used ids o.chunk n (drop (i + 1) os)
  unfolding numbered
  more last number os i o n l is e =
      at_drop_more (numbered used ids last number) os i o l
      ∙ (ap (λ (x : Owner). numbered used ids last number (x ∷ drop (i + 1) os)) (sym is)
      ∙ ap (λ k. let m : MadeNode = record { id = o.chunk + k; chunk = o.chunk; least = get_or ids o.least 0 } in m ∷ numbered used ids o.chunk k (drop (i + 1) os)) (sym e))

  pub num_step : (last number : ℕ) (os : List Owner) (i : ℕ) (o : Owner) (n : ℕ) (m : MadeNode) (done new whole : List MadeNode) → i < length os → o ≡ get_or os i o → n ≡ number_behind used last number o.chunk
      → m ≡ record { id = o.chunk + n; chunk = o.chunk; least = get_or ids o.least 0 }
      → done ++ numbered used ids last number (drop i os) ≡ whole → new ≡ done ++ m ∷ []
      → new ++ numbered used ids o.chunk n (drop (i + 1) os) ≡ whole
  num_step last number os i o n m done new whole l is e made p q =
      ap (λ ms. ms ++ numbered used ids o.chunk n (drop (i + 1) os)) q
      ∙ (append_assoc done (m ∷ []) (numbered used ids o.chunk n (drop (i + 1) os))
      ∙ (ap (λ ms. done ++ ms) (ap (λ x. x ∷ numbered used ids o.chunk n (drop (i + 1) os)) made ∙ sym (more last number os i o n l is e)) ∙ p))

  pub num_end : (last number : ℕ) (os : List Owner) (i : ℕ) (done whole : List MadeNode) → length os ≤ i → done ++ numbered used ids last number (drop i os) ≡ whole → done ≡ whole
  unfolding numbered
  num_end last number os i done whole l p = sym (append-nil done) ∙ (ap (λ xs. done ++ numbered used ids last number xs) (sym (none_left os i l)) ∙ p)

  -- no number is below its chunk
  pub ids_above : (last number : ℕ) (os : List Owner) → AllByRecursion (λ (m : MadeNode). m.chunk ≤ m.id) (numbered used ids last number os)
  unfolding numbered
  ids_above last number [] = tt
  ids_above last number (o ∷ os) = (omega arith, ids_above o.chunk (number_behind used last number o.chunk) os)

  pub leasts_are : (last number : ℕ) (os : List Owner) → map (at ids) (map (λ (o : Owner). o.least) os) ≡ map (λ (m : MadeNode). m.least) (numbered used ids last number os)
  unfolding numbered
  leasts_are last number [] = refl
  leasts_are last number (o ∷ os) = ap (λ ls. get_or ids o.least 0 ∷ ls) (leasts_are o.chunk (number_behind used last number o.chunk) os)

pub behind_low : (used : ℕ → ℕ) (last number c n k : ℕ) → n ≡ number_behind used last number c → number ≤ 2 ^ 56 + k → used c < 2 ^ 56 → n ≤ 2 ^ 56 + (k + 1)
behind_low used last number c n k e l u = go (eqb c last) e
  where
    go : (t : Bool) → n ≡ cond t (number + 1) (used c + 1) → n ≤ 2 ^ 56 + (k + 1)
    go true h = omega arith
    go false h = omega arith

pub spent_more : (limit : ℕ) (ms : List MadeNode) (i : ℕ) (m : MadeNode) → i < length ms → m ≡ get_or ms i m
    → first_spent limit (drop i ms) ≡ cond (leb limit (m.id - m.chunk)) (Some m.chunk) (first_spent limit (drop (i + 1) ms))
unfolding first_spent
spent_more limit ms i m l is =
    at_drop_more (first_spent limit) ms i m l ∙ ap (λ (x : MadeNode). first_spent limit (x ∷ drop (i + 1) ms)) (sym is)

pub spent_end : (limit : ℕ) (ms : List MadeNode) (i : ℕ) → length ms ≤ i → first_spent limit (drop i ms) ≡ None
unfolding first_spent
spent_end limit ms i l = ap (first_spent limit) (none_left ms i l)
