-- Carries of links, as replies tell them, one more at a time.
use Rattle.std.proofs.Common.{◌≡◌, ℕ, zero, suc, ◌+◌, ◌<◌, ◌≤◌, List, [], ◌∷◌, ◌++◌, length, map, get_or, Option, Some, None, refl, sym, ◌∙◌, ap, ap₂, arith, take, ℤ, pos, negsuc, ◌<ℤ◌}
use Rattle.std.proofs.lemmas.Int.{ints}
use Rattle.std.specs.Int.RustNames.{unsigned_abs}
use Rattle.std.proofs.lemmas.List.{get_or-map}
use Rattle.op_model.specs.declared.base.Edge.{Edge}
use Rattle.op_model.specs.declared.base.Pair.{Pair}
use Rattle.op_model.specs.declared.entry.Carry.{Carry}
use Rattle.graph_model.specs.Wires.{wire, no_wire}
use Rattle.graph_model.specs.Flows.{amount}
use Rattle.graph_model.specs.Carries.{Carried, carries, carry_of}
use Rattle.graph_model.proofs.ListLemmas.{any_default}
use Rattle.op_model.specs.Cuts.{link_of, links_of, no_pair, pair_at, shown_flow}
use Rattle.split_net.specs.Parts.{told_carries, told_carry}
use Rattle.split_net.proofs.Placing.{map_next, take_next}

pub pair_is : (part : List Edge) (k : ℕ) (e : Edge) → k < length part → e ≡ get_or part k e → e.pair ≡ pair_at part k
unfolding pair_at
pair_is part k e l s = ap (λ (x : Edge). x.pair) s ∙ sym (get_or-map (λ (x : Edge). x.pair) part k e no_pair l)

abbrev pub tell : Carried → Carry
tell c = record { from = c.from; to = c.to; amount = c.amount }

tell_append : (cs ds : List Carried) → map tell (cs ++ ds) ≡ map tell cs ++ map tell ds
tell_append [] ds = refl
tell_append (c ∷ cs) ds = ap (λ es. tell c ∷ es) (tell_append cs ds)

module _ (part : List Edge) (fs : List ℤ) (k : ℕ) (e : Edge) (told : List Carry) (low : k < length part) (edge : e ≡ get_or part k e)
    (before : told ≡ map tell (carries (links_of part) fs k)) where
  wire_is : wire (links_of part) k ≡ link_of e
  unfolding links_of
  wire_is = get_or-map link_of part k e no_wire low ∙ ap link_of (sym edge)

  all_next : told ++ told_carries (link_of e) (amount fs k) ≡ map tell (carries (links_of part) fs (k + 1))
  all_next =
      ap₂ (λ xs ys. xs ++ ys) before (ap (λ w. map tell (carry_of w (amount fs k))) (sym wire_is))
      ∙ (sym (tell_append (carries (links_of part) fs k) (carry_of (wire (links_of part) k) (amount fs k)))
      ∙ ap (λ n. map tell (carries (links_of part) fs n)) (add_one k))
    where
      add_one : (n : ℕ) → suc n ≡ n + 1
      add_one n = omega arith

  pub next_some : (c : Carry) (o : Option Carry) → o ≡ Some c → told_carry o ≡ told_carries (link_of e) (amount fs k) → told ++ c ∷ [] ≡ map tell (carries (links_of part) fs (k + 1))
  next_some c o s t = ap (λ cs. told ++ cs) (ap told_carry (sym s) ∙ t) ∙ all_next

  pub next_none : (o : Option Carry) → o ≡ None → told_carry o ≡ told_carries (link_of e) (amount fs k) → told ≡ map tell (carries (links_of part) fs (k + 1))
  next_none o s t = sym (none_more told) ∙ (ap (λ cs. told ++ cs) (ap told_carry (sym s) ∙ t) ∙ all_next)
    where
      none_more : (cs : List Carry) → cs ++ [] ≡ cs
      none_more [] = refl
      none_more (c ∷ cs) = ap (λ ds. c ∷ ds) (none_more cs)

pub flow_whole : (part : List Edge) (fs : List ℤ) (k : ℕ) (told : List Carry) → k ≤ length part → length part ≤ k → told ≡ map tell (carries (links_of part) fs k) → told ≡ shown_flow part fs
unfolding shown_flow
flow_whole part fs k told l m e = let n : k ≡ length part = omega arith in e ∙ ap (λ i. map tell (carries (links_of part) fs i)) n

-- an amount that runs forth, and one that runs back
pub told_forth : (e : Edge) (z : ℤ) (n : ℕ) → pos 0 <ℤ z → n ≡ unsigned_abs z → (let c : Carry = record { from = e.pair.a; to = e.pair.b; amount = n } in c ∷ []) ≡ told_carries (link_of e) z
unfolding link_of
told_forth e (pos zero) n l s = absurd (omega (arith, ints))
told_forth e (pos (suc k)) n l s = ap (λ m. let c : Carry = record { from = e.pair.a; to = e.pair.b; amount = m } in c ∷ []) s
told_forth e (negsuc k) n l s = absurd (omega (arith, ints))

pub told_back : (e : Edge) (z : ℤ) (n : ℕ) → z <ℤ pos 0 → n ≡ unsigned_abs z → (let c : Carry = record { from = e.pair.b; to = e.pair.a; amount = n } in c ∷ []) ≡ told_carries (link_of e) z
unfolding link_of
told_back e (pos k) n l s = absurd (omega (arith, ints))
told_back e (negsuc k) n l s = ap (λ m. let c : Carry = record { from = e.pair.b; to = e.pair.a; amount = m } in c ∷ []) s

-- one pair more
pub pairs_next : (part : List Edge) (links : List ℕ) (at : ℕ) (e : Edge) (told : List Pair) → at < length links → get_or links at 0 < length part → e ≡ get_or part (get_or links at 0) e
    → told ≡ map (pair_at part) (take at links) → told ++ e.pair ∷ [] ≡ map (pair_at part) (take (at + 1) links)
pairs_next part links at e told l m s h =
    ap₂ (λ ps p. ps ++ p ∷ []) h (pair_is part (get_or links at 0) e m s)
    ∙ (sym (map_next (pair_at part) (take at links) (get_or links at 0)) ∙ ap (map (pair_at part)) (sym (take_next links at (get_or links at 0) l (any_default links at 0 (get_or links at 0) l))))
