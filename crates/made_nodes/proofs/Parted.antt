-- The numbers of nodes go on in each chunk from its greatest so far, and the first chunk without room is the first with a number that isn't below the limit.
use Rattle.std.proofs.Common.{◌≡◌, ℕ, suc, ◌+◌, ◌-◌, ◌<◌, Bool, true, false, cond, leb, List, [], ◌∷◌, ◌++◌, length, get_or, Some, refl, sym, ◌∙◌, ap, arith, eq-eqb}
use Rattle.std.specs.List.{AllByRecursion, flat_map, find}
use Rattle.std.proofs.lemmas.Bool.{ne_eqb, le-leb, leb-true, leb-false, false_from_ne_true}
use Rattle.record_rows.proofs.DifferLemmas.{Differ, all_more}
use Rattle.entry_parts.specs.declared.made.MadeNode.{MadeNode}
use Rattle.made_nodes.specs.declared.owning.Owner.{Owner}
use Rattle.made_nodes.specs.Numbers.{number_behind, numbered, first_spent}

abbrev pub In : ℕ → List Owner → Type 0
In c = AllByRecursion (λ o. o.chunk ≡ c)

module _ (used : ℕ → ℕ) (ids : List ℕ) where
  abbrev pub made : Owner → ℕ → MadeNode
  made o k = record { id = o.chunk + k; chunk = o.chunk; least = get_or ids o.least 0 }

  -- the nodes of one chunk with numbers from k on
  unfoldable pub up_from : ℕ → List Owner → List MadeNode
  up_from k [] = []
  up_from k (o ∷ os) = made o k ∷ up_from (k + 1) os

  behind_same : (c k x : ℕ) → x ≡ c → number_behind used c k x ≡ k + 1
  behind_same c k x e = ap (λ t. cond t (k + 1) (used x + 1)) (eq-eqb x c e)

  behind_other : (last l x c : ℕ) → x ≡ c → (c ≡ last → ⊥) → number_behind used last l x ≡ used c + 1
  behind_other last l x c e f = ap (λ t. cond t (l + 1) (used x + 1)) (ne_eqb x last (λ q. f (sym e ∙ q))) ∙ ap (λ y. used y + 1) e

  num_head : (a l c m : ℕ) (o : Owner) (os : List Owner) → number_behind used a l o.chunk ≡ number_behind used c m o.chunk → numbered used ids a l (o ∷ os) ≡ numbered used ids c m (o ∷ os)
  unfolding numbered
  num_head a l c m o os e = ap (λ k. made o k ∷ numbered used ids o.chunk k os) e

  num_in : (c k : ℕ) (os rest : List Owner) → In c os → numbered used ids c k (os ++ rest) ≡ up_from (k + 1) os ++ numbered used ids c (k + length os) rest
  unfolding numbered up_from
  num_in c k [] rest i = ap (λ m. numbered used ids c m rest) (let e : k ≡ k + 0 = omega arith in e)
  num_in c k (o ∷ os) rest i =
      let s : k + 1 + length os ≡ k + suc (length os) = omega arith in
      ap (λ m. made o m ∷ numbered used ids o.chunk m (os ++ rest)) (behind_same c k o.chunk i.0)
      ∙ ap (λ ms. made o (k + 1) ∷ ms) (ap (λ x. numbered used ids x (k + 1) (os ++ rest)) i.0 ∙ (num_in c (k + 1) os rest i.1 ∙ ap (λ m. up_from (k + 1 + 1) os ++ numbered used ids c m rest) s))

  apart : (c : ℕ) (cs : List ℕ) → AllByRecursion (λ e. c < e) cs → AllByRecursion (λ e. e ≡ c → ⊥) cs
  apart c cs = all_more (λ e. c < e) (λ e. e ≡ c → ⊥) cs (λ e l q. omega arith)

  pub num_groups : (g : ℕ → List Owner) (cs : List ℕ) → Differ (λ x y. x < y) cs → AllByRecursion (λ c. In c (g c)) cs → (last l : ℕ) → AllByRecursion (λ c. c ≡ last → ⊥) cs
      → numbered used ids last l (flat_map g cs) ≡ flat_map (λ c. up_from (used c + 1) (g c)) cs
  unfolding numbered up_from
  num_groups g [] u a last l f = refl
  num_groups g (c ∷ cs) u a last l f = one (g c) a.0 (num_groups g cs u.1 a.1)
    where
      one : (os : List Owner) → In c os
          → ((last l : ℕ) → AllByRecursion (λ e. e ≡ last → ⊥) cs → numbered used ids last l (flat_map g cs) ≡ flat_map (λ e. up_from (used e + 1) (g e)) cs)
          → numbered used ids last l (os ++ flat_map g cs) ≡ up_from (used c + 1) os ++ flat_map (λ e. up_from (used e + 1) (g e)) cs
      one [] i ih = ih last l f.1
      one (o ∷ os) i ih =
          num_head last l c (used c) o (os ++ flat_map g cs) (behind_other last l o.chunk c i.0 f.0 ∙ sym (behind_same c (used c) o.chunk i.0))
          ∙ (num_in c (used c) (o ∷ os) (flat_map g cs) i
          ∙ ap (λ ms. up_from (used c + 1) (o ∷ os) ++ ms) (ih c (used c + length (o ∷ os)) (apart c cs u.0)))

  spent_group : (limit c k : ℕ) (os : List Owner) (rest : List MadeNode) → In c os → k < limit
      → first_spent limit (up_from (k + 1) os ++ rest) ≡ cond (leb limit (k + length os)) (Some c) (first_spent limit rest)
  unfolding first_spent up_from
  spent_group limit c k [] rest i l =
      sym (ap (λ t. cond t (Some c) (first_spent limit rest)) (false_from_ne_true (leb limit (k + 0)) (λ h. let m = leb-true limit (k + 0) h in omega arith)))
  spent_group limit c k (o ∷ os) rest i l =
      ap (λ n. cond (leb limit n) (Some o.chunk) (first_spent limit (up_from (k + 1 + 1) os ++ rest))) (let e : o.chunk + (k + 1) - o.chunk ≡ k + 1 = omega arith in e)
      ∙ go (leb limit (k + 1)) refl (spent_group limit c (k + 1) os rest i.1)
    where
      s : k + 1 + length os ≡ k + suc (length os)
      s = omega arith

      go : (t : Bool) → leb limit (k + 1) ≡ t
          → (k + 1 < limit → first_spent limit (up_from (k + 1 + 1) os ++ rest) ≡ cond (leb limit (k + 1 + length os)) (Some c) (first_spent limit rest))
          → cond t (Some o.chunk) (first_spent limit (up_from (k + 1 + 1) os ++ rest)) ≡ cond (leb limit (k + suc (length os))) (Some c) (first_spent limit rest)
      go true e ih =
          ap (λ x. Some x) i.0 ∙ sym (ap (λ t. cond t (Some c) (first_spent limit rest)) (le-leb limit (k + suc (length os)) (let m = leb-true limit (k + 1) e in omega arith)))
      go false e ih =
          ih (let m = leb-false limit (k + 1) e in omega arith) ∙ ap (λ m. cond (leb limit m) (Some c) (first_spent limit rest)) s

  pub spent_groups : (limit : ℕ) (g : ℕ → List Owner) (cs : List ℕ) → AllByRecursion (λ c. In c (g c)) cs → AllByRecursion (λ c. used c < limit) cs
      → first_spent limit (flat_map (λ c. up_from (used c + 1) (g c)) cs) ≡ find (λ c. leb limit (used c + length (g c))) cs
  unfolding first_spent
  spent_groups limit g [] a f = refl
  spent_groups limit g (c ∷ cs) a f =
      spent_group limit c (used c) (g c) (flat_map (λ e. up_from (used e + 1) (g e)) cs) a.0 f.0
      ∙ ap (λ x. cond (leb limit (used c + length (g c))) (Some c) x) (spent_groups limit g cs a.1 f.1)
