-- The answer of a least cut, put together.
use Rattle.std.proofs.Common.{◌≡◌, ℕ, zero, suc, ◌<◌, ◌≤◌, Bool, false, cond, List, [], ◌∷◌, ◌++◌, length, get_or, map, ℤ, pos, Option, Some, None, sym, refl, ap, ◌∙◌, subst, inl, inr, arith, append-nil, take, ap₂, All}
use Rattle.flow_net.specs.declared.Link.{Link}
use Rattle.std.proofs.lemmas.List.{length-map}
use Rattle.std.proofs.lemmas.Int.{ints}
use Rattle.std.proofs.lemmas.Bool.{cases_Bool, cases_lt}
use Rattle.flow_net.specs.Net.{NetView, IsNet, IsAscending, wires, wire_of}
use Rattle.graph_model.specs.Wires.{Wire, EndsBelow}
use Rattle.graph_model.specs.Lists.{has}
use Rattle.graph_model.specs.Cuts.{Separates, IsLeastCut, weight, chosen, crosses, least_cut, first_open, is_affinity}
use Rattle.graph_model.specs.Flows.{IsFlow, value}
use Rattle.graph_model.specs.Residual.{IsLast}
use Rattle.flow_net.specs.Verdict.{Accepts}
use Rattle.graph_model.proofs.FirstOpen.{some_none, glue_separates}
use Rattle.graph_model.proofs.Computed.{chosen_at, separates_agree, weight_agree}
use Rattle.graph_model.proofs.ListLemmas.{any_default}
use Rattle.graph_model.proofs.Optimal.{edge_separates}
use Rattle.graph_model.proofs.Shown.{shown, shown_value, least_cut_is}
use Rattle.min_cut.specs.Glue.{glued_by, glued}

get_append : (xs ys : List ℕ) (j : ℕ) → j < length xs → get_or (xs ++ ys) j 0 ≡ get_or xs j 0
get_append [] ys j l = absurd (omega arith)
get_append (x ∷ xs) ys zero l = refl
get_append (x ∷ xs) ys (suc j) l = get_append xs ys j (omega arith)

get_last : (xs : List ℕ) (y j : ℕ) → length xs ≤ j → j < length (xs ++ y ∷ []) → (j ≡ length xs) × (get_or (xs ++ y ∷ []) j 0 ≡ y)
get_last [] y zero l m = (refl, refl)
get_last [] y (suc j) l m = absurd (omega arith)
get_last (x ∷ xs) y zero l m = absurd (omega arith)
get_last (x ∷ xs) y (suc j) l m = let r = get_last xs y j (omega arith) (omega arith) in (omega arith, r.1)

chosen_below : (x : ℕ → Bool) (m j : ℕ) → j < length (chosen x m) → get_or (chosen x m) j 0 < m
chosen_below x zero j l = absurd (omega arith)
chosen_below x (suc m) j l = elim (cases_Bool (x m)) [
  | inr f ↦ let n : j < length (chosen x m) = shorter f l in let i = chosen_below x m j n in
      let e : get_or (chosen x m ++ cond (x m) (m ∷ []) []) j 0 ≡ get_or (chosen x m) j 0 = get_append (chosen x m) (cond (x m) (m ∷ []) []) j n in omega arith
  | inl t ↦ elim (cases_lt j (length (chosen x m))) [
    | inl n ↦ let i = chosen_below x m j n in
        let e : get_or (chosen x m ++ cond (x m) (m ∷ []) []) j 0 ≡ get_or (chosen x m) j 0 = get_append (chosen x m) (cond (x m) (m ∷ []) []) j n in omega arith
    | inr g ↦ let r = get_last (chosen x m) m j g (subst (λ (b : Bool). j < length (chosen x m ++ cond b (m ∷ []) [])) t l) in
        let e : get_or (chosen x m ++ cond (x m) (m ∷ []) []) j 0 ≡ m = rw t r.1 in omega arith
  ]
]
  where
    shorter : x m ≡ false → j < length (chosen x m ++ cond (x m) (m ∷ []) []) → j < length (chosen x m)
    shorter f l = let k : j < length (chosen x m ++ []) = subst (λ (b : Bool). j < length (chosen x m ++ cond b (m ∷ []) [])) f l in
        let e : length (chosen x m ++ []) ≡ length (chosen x m) = ap length (append-nil (chosen x m)) in omega arith

pub chosen_ascending : (x : ℕ → Bool) (m : ℕ) → IsAscending (chosen x m)
chosen_ascending x zero j k l h = absurd (omega arith)
chosen_ascending x (suc m) j k l h = elim (cases_lt k (length (chosen x m))) [
  | inl n ↦ rw (get_append (chosen x m) (cond (x m) (m ∷ []) []) j (omega arith), get_append (chosen x m) (cond (x m) (m ∷ []) []) k n) (chosen_ascending x m j k l n)
  | inr g ↦ elim (cases_Bool (x m)) [
    | inl t ↦
        let r = get_last (chosen x m) m k g (subst (λ (b : Bool). k < length (chosen x m ++ cond b (m ∷ []) [])) t h) in
        let q = r.0 in
        let n : j < length (chosen x m) = omega arith in
        let i = chosen_below x m j n in
        let e : get_or (chosen x m ++ cond (x m) (m ∷ []) []) k 0 ≡ m = rw t r.1 in
        let d : get_or (chosen x m ++ cond (x m) (m ∷ []) []) j 0 ≡ get_or (chosen x m) j 0 = get_append (chosen x m) (cond (x m) (m ∷ []) []) j n in
        omega arith
    | inr f ↦
        let s : k < length (chosen x m ++ []) = subst (λ (b : Bool). k < length (chosen x m ++ cond b (m ∷ []) [])) f h in
        let e : length (chosen x m ++ []) ≡ length (chosen x m) = ap length (append-nil (chosen x m)) in
        absurd (omega arith)
  ]
]

-- where the search for glue finds nothing, the set of all links but glue separates
pub separable : (ws : List Wire) (sources sinks : List ℕ) → glued ws sources sinks ≡ None → Separates ws sources sinks (is_affinity ws)
separable ws sources sinks e = glue_separates ws sources sinks (none (first_open ws (is_affinity ws) sources sinks) e)
  where
    none : (o : Option (ℕ × ℕ)) → glued_by o ≡ None → o ≡ None
    none None e = refl
    none (Some m) e = absurd (some_none e)

-- the answer of a last side
pub record IsAnswer (net : NetView) (sources sinks cut : List ℕ) (total : ℕ) (fs : List ℤ) : Type 0 where
  pub cut_is : cut ≡ least_cut (wires net) sources sinks
  pub total_is : total ≡ weight (wires net) (has cut)
  pub accepts : Accepts net sources sinks cut fs
  pub least : IsLeastCut (wires net) sources sinks cut
  pub ascending : IsAscending cut
  pub below : All (λ k. k < length net.links) cut

pub answer : (net : NetView) (sources sinks : List ℕ) (fs : List ℤ) (side : ℕ → Bool) (total : ℕ) → EndsBelow net.size (wires net) →
    IsFlow net.size (wires net) sources sinks fs → IsLast (wires net) sources sinks fs side → value (wires net) fs sources ≡ pos total →
    IsAnswer net sources sinks (chosen (crosses (wires net) side) (length (wires net))) total fs
answer net sources sinks fs side total ends flow last v =
    let ws = wires net in
    let m = length ws in
    let x = crosses ws side in
    let same = λ (k : ℕ) (l : k < m). sym (chosen_at x m k l) in
    let sep = edge_separates net.size ws sources sinks fs ends flow side last in
    let c = shown net.size ws sources sinks fs ends flow side last in
    let e = shown_value net.size ws sources sinks fs ends flow side last in
    let w = weight_agree ws x (has (chosen x m)) same in
    record {
      cut_is = c;
      total_is = omega (arith, ints);
      accepts = record {
        separates = separates_agree ws sources sinks x (has (chosen x m)) same sep;
        flow = flow;
        equal = e ∙ ap pos w;
      };
      least = subst (λ (xs : List ℕ). IsLeastCut ws sources sinks xs) (sym c) (least_cut_is ws sources sinks x sep);
      ascending = chosen_ascending x m;
      below = λ k d l.
          let b = chosen_below x m k l in
          let e : length ws ≡ length net.links = rw length-map refl in
          let a = any_default (chosen x m) k d 0 l in
          omega arith;
    }

-- the same, of the parts that the code has
pub answer_of : (net : NetView) (sources sinks : List ℕ) (links : List Link) (n total : ℕ) (fs : List ℤ) (side : ℕ → Bool) (cut : List ℕ) → links ≡ net.links → n ≡ net.size →
    IsNet net → IsFlow n (map wire_of links) sources sinks fs → IsLast (map wire_of links) sources sinks fs side →
    value (map wire_of links) fs sources ≡ pos total → cut ≡ chosen (crosses (map wire_of links) side) (length links) → IsAnswer net sources sinks cut total fs
answer_of net sources sinks links n total fs side cut e s sound flow last v c =
    let here : NetView = record { size = n; links = links } in
    let same : here ≡ net = ap₂ (λ (i : ℕ) (ls : List Link). let v : NetView = record { size = i; links = ls } in v) s e in
    let ends : EndsBelow n (map wire_of links) = subst (λ (w : NetView). EndsBelow w.size (wires w)) (sym same) (λ k l. sound.below k (rw length-map at l)) in
    let a = answer here sources sinks fs side total ends flow last v in
    let b : chosen (crosses (map wire_of links) side) (length (map wire_of links)) ≡ cut = rw length-map (sym c) in
    subst (λ (w : NetView). IsAnswer w sources sinks cut total fs) same (subst (λ (xs : List ℕ). IsAnswer here sources sinks xs total fs) b a)

pub front : {X : Type 0} (xs ys : List X) (n : ℕ) → n ≡ length xs → take n (xs ++ ys) ≡ xs
front [] ys n e = rw e refl
front (x ∷ xs) ys n e = rw e (ap (λ zs. x ∷ zs) (front xs ys (length xs) refl))
