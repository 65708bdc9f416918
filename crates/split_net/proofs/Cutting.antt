-- The least cut of a net between places is that of the edges between supervoxels.
use Rattle.std.proofs.Common.{◌≡◌, ℕ, zero, suc, ◌+◌, ◌<◌, Bool, true, false, cond, List, [], ◌∷◌, length, map, get_or, Option, Some, None, Err, inl, inr, ◌⊎◌, is_some, refl, sym, ◌∙◌, ap, ap₂, subst, arith, Contains, IsTrue, IsFalse, ℤ, pos}
use Rattle.std.proofs.Math.Path.{fun_ext}
use Rattle.std.specs.List.{All, AllByRecursion, find}
use Rattle.std.specs.Option.{option_map_or}
use Rattle.std.proofs.lemmas.Bool.{false≢true, false_from_ne_true}
use Rattle.std.proofs.lemmas.List.{length-map}
use Rattle.min_cut.specs.declared.CutError.{CutError}
use Rattle.min_cut.specs.declared.CutError.TheVariants as fault
use Rattle.min_cut.specs.declared.LeastCut.{LeastCut}
use Rattle.min_cut.specs.Glue.{glued, glued_by}
use Rattle.flow_net.specs.Net.{NetView, IsNet, wires}
use Rattle.flow_net.specs.Verdict.{Accepts}
use Rattle.graph_model.specs.Lists.{has}
use Rattle.graph_model.specs.Wires.{Wire, wire, total, weight_of, renamed, EndsBelow}
use Rattle.graph_model.specs.Flows.{IsFlow, value}
use Rattle.graph_model.specs.Carries.{taken_from, brought_to, taken_out, brought_in}
use Rattle.graph_model.specs.Cuts.{weight, marked_weight, first_open, first_sink, open_at, open_from, is_affinity, renamed_mark, least_cut as least_links}
use Rattle.graph_model.proofs.FirstOpen.{some_none, some_same}
use Rattle.graph_model.proofs.Totals.{total_same}
use Rattle.graph_model.proofs.Renamed.{same_least_cut, same_first_open}
use Rattle.graph_model.proofs.FlowRenamed.{same_flow, same_value}
use Rattle.op_model.specs.declared.base.Edge.{Edge}
use Rattle.op_model.specs.declared.entry.Carry.{Carry}
use Rattle.op_model.specs.declared.entry.Shown.{Shown}
use Rattle.op_model.specs.declared.reply.Refusal.{Refusal}
use Rattle.op_model.specs.declared.reply.Refusal.TheVariants.{Glued}
use Rattle.op_model.specs.Cuts.{IsCarry, IsShown, PairsAscend, carried, carry_pair, cut_weight, least_cut, link_of, links_of, pair_at, shown_flow}
use Rattle.op_model.proofs.LegalLemmas.{map_has}
use Rattle.op_model.proofs.ShownLemmas.{flow_shows}
use Rattle.layer_laws.proofs.PlaceLemmas.{at_one}
use Rattle.split_net.specs.Parts.{IsPart, IsTold, IsUnshown, glue_refusal, id_at}

-- greater than all ends of edges
above : List Edge → ℕ
above [] = 0
above (e ∷ es) = suc (e.pair.a + e.pair.b + above es)

ends_below : (es : List Edge) → EndsBelow (above es) (map link_of es)
unfolding above link_of
ends_below [] k l = absurd (omega arith)
ends_below (e ∷ es) zero l = (omega arith, omega arith)
ends_below (e ∷ es) (suc k) l = let p = ends_below es k (omega arith) in let a = p.0 in let b = p.1 in (omega (arith, a), omega (arith, b))

same_rooms : (f : ℕ → ℕ) (ws : List Wire) (k : ℕ) → (wire (renamed f ws) k).room ≡ (wire ws k).room
same_rooms f [] k = refl
same_rooms f (w ∷ ws) zero = refl
same_rooms f (w ∷ ws) (suc k) = same_rooms f ws k

same_affinity : (f : ℕ → ℕ) (ws : List Wire) → is_affinity (renamed f ws) ≡ is_affinity ws
same_affinity f ws = fun_ext (λ k. ap is_some (same_rooms f ws k))

same_weight : (f : ℕ → ℕ) (ws : List Wire) (x : ℕ → Bool) → weight (renamed f ws) x ≡ weight ws x
same_weight f ws x =
    ap (total (marked_weight (renamed f ws) x)) (length-map ws _)
    ∙ total_same (marked_weight (renamed f ws) x) (marked_weight ws x) (length ws) (λ k l. ap (λ r. cond (x k) (weight_of r) 0) (same_rooms f ws k))

-- what is found in a list is one of it
found_low : (n : ℕ) (test : ℕ → Bool) (xs : List ℕ) (x : ℕ) → find test xs ≡ Some x → All (λ i. i < n) xs → x < n
found_low n test [] x e a = absurd (some_none (sym e))
found_low n test (y ∷ ys) x e a = go (test y) e (λ r. found_low n test ys x r (λ k d l. a (suc k) d (omega arith)))
  where
    go : (b : Bool) → cond b (Some y) (find test ys) ≡ Some x → (find test ys ≡ Some x → x < n) → x < n
    go true r ih = subst (λ i. i < n) (some_same r) (a zero 0 (omega arith))
    go false r ih = ih r

open_parts : (sink : ℕ → Option ℕ) (o : Option ℕ) (m : ℕ × ℕ) → open_from sink o ≡ Some m → (o ≡ Some m.0) × (sink m.0 ≡ Some m.1)
open_parts sink None m e = absurd (some_none (sym e))
open_parts sink (Some s) m e = go (sink s) refl e
  where
    go : (t : Option ℕ) → sink s ≡ t → open_at s t ≡ Some m → (Some s ≡ Some m.0) × (sink m.0 ≡ Some m.1)
    go None q h = absurd (some_none (sym h))
    go (Some t) q h =
        let p : (s, t) ≡ m = some_same h in
        (ap (λ (n : ℕ × ℕ). Some n.0) p, ap (λ (n : ℕ × ℕ). sink n.0) (sym p) ∙ (q ∙ ap (λ (n : ℕ × ℕ). Some n.1) p))

-- the marks that glue joins are places
pub marks_low : (n : ℕ) (ws : List Wire) (from to : List ℕ) → All (λ i. i < n) from → All (λ i. i < n) to → (s t : ℕ) → glued ws from to ≡ Some (fault.Glued s t) → (s < n) × (t < n)
marks_low n ws from to a b s t e =
    let m : first_open ws (is_affinity ws) from to ≡ Some (s, t) = go (first_open ws (is_affinity ws) from to) e in
    let p = open_parts (first_sink ws (is_affinity ws) to) (find (λ u. is_some (first_sink ws (is_affinity ws) to u)) from) (s, t) m in
    (found_low n _ from s p.0 a, found_low n _ to t p.1 b)
  where
    go : (o : Option (ℕ × ℕ)) → glued_by o ≡ Some (fault.Glued s t) → o ≡ Some (s, t)
    go None h = cc
    go (Some q) h = let x : q.0 ≡ s = cc in let y : q.1 ≡ t = cc in ap₂ (λ i j. Some (i, j)) x y

pub glued_is : (ws : List Wire) (from to : List ℕ) (e : CutError) (s t : ℕ) → e ≡ fault.Glued s t → (e ≡ fault.NoMemory) ⊎ (glued ws from to ≡ Some e) → glued ws from to ≡ Some (fault.Glued s t)
glued_is ws from to e s t p (inl q) = cc
glued_is ws from to e s t p (inr q) = q ∙ ap (λ (x : CutError). Some x) p

pub unshown : (part : List Edge) (sources sinks : List ℕ) (r : Refusal) (u v : ℕ) → r ≡ Glued u v → glue_refusal part sources sinks ≡ Some (Glued u v) → IsUnshown part sources sinks (Err r)
unshown part sources sinks r u v e h = subst (λ (x : Refusal). IsUnshown part sources sinks (Err x)) (sym e) h

module _ (leaves : List ℕ) (part : List Edge) (sources sinks : List ℕ) (net : NetView) (from to : List ℕ) (is : IsPart leaves part)
    (names : renamed (id_at leaves) (wires net) ≡ links_of part) (size : net.size ≡ length leaves) (sound : IsNet net)
    (from_is : map (id_at leaves) from ≡ sources) (to_is : map (id_at leaves) to ≡ sinks)
    (from_low : All (λ i. i < length leaves) from) (to_low : All (λ i. i < length leaves) to) where
  f : ℕ → ℕ
  f = id_at leaves

  one : (u v : ℕ) → u < net.size → v < net.size → id_at leaves u ≡ id_at leaves v → u ≡ v
  one u v l m e = at_one leaves u v is.rising (omega (arith, size)) (omega (arith, size)) e

  ends : EndsBelow net.size (wires net)
  ends k l = sound.below k (rw length-map at l)

  from_below : (v : ℕ) → Contains from v → v < net.size
  from_below v (k, l, e) = let q : get_or from k v < length leaves = from_low k v l in omega (arith, size, e, q)

  to_below : (v : ℕ) → Contains to v → v < net.size
  to_below v (k, l, e) = let q : get_or to k v < length leaves = to_low k v l in omega (arith, size, e, q)

  cut_is : least_links (links_of part) sources sinks ≡ least_links (wires net) from to
  cut_is =
      ap₂ (λ ws ss. least_links ws ss sinks) (sym names) (sym from_is)
      ∙ (ap (least_links (renamed (id_at leaves) (wires net)) (map (id_at leaves) from)) (sym to_is)
      ∙ same_least_cut (id_at leaves) net.size (wires net) from to one ends from_below to_below)

  weight_is : (x : ℕ → Bool) → weight (links_of part) x ≡ weight (wires net) x
  weight_is x = ap (λ ws. weight ws x) (sym names) ∙ same_weight (id_at leaves) (wires net) x

  open_is : first_open (links_of part) (is_affinity (links_of part)) sources sinks ≡ renamed_mark (λ (m : ℕ × ℕ). (id_at leaves m.0, id_at leaves m.1)) (first_open (wires net) (is_affinity (wires net)) from to)
  open_is =
      ap₂ (λ ws ss. first_open ws (is_affinity ws) ss sinks) (sym names) (sym from_is)
      ∙ (ap₂ (λ x ts. first_open (renamed (id_at leaves) (wires net)) x (map (id_at leaves) from) ts) (same_affinity (id_at leaves) (wires net)) (sym to_is)
      ∙ same_first_open (id_at leaves) net.size (wires net) one ends (is_affinity (wires net)) from to from_below to_below)

  -- glue that joins places joins the leaves that stand there
  pub glue_told : (s t : ℕ) → glued (wires net) from to ≡ Some (fault.Glued s t) → glue_refusal part sources sinks ≡ Some (Glued (id_at leaves s) (id_at leaves t))
  unfolding glue_refusal
  glue_told s t e = ap (λ m. option_map_or (λ (p : ℕ × ℕ). Some (Glued p.0 p.1)) m None) open_is ∙ go (first_open (wires net) (is_affinity (wires net)) from to) e
    where
      go : (m : Option (ℕ × ℕ)) → glued_by m ≡ Some (fault.Glued s t)
          → option_map_or (λ (p : ℕ × ℕ). Some (Glued p.0 p.1)) (renamed_mark (λ (p : ℕ × ℕ). (id_at leaves p.0, id_at leaves p.1)) m) None ≡ Some (Glued (id_at leaves s) (id_at leaves t))
      go None h = cc
      go (Some p) h = cc

  -- and where none does, none does there
  pub glue_untold : glued (wires net) from to ≡ None → glue_refusal part sources sinks ≡ None
  unfolding glue_refusal
  glue_untold e = ap (λ m. option_map_or (λ (p : ℕ × ℕ). Some (Glued p.0 p.1)) m None) open_is ∙ go (first_open (wires net) (is_affinity (wires net)) from to) e
    where
      go : (m : Option (ℕ × ℕ)) → glued_by m ≡ None → option_map_or (λ (p : ℕ × ℕ). Some (Glued p.0 p.1)) (renamed_mark (λ (p : ℕ × ℕ). (id_at leaves p.0, id_at leaves p.1)) m) None ≡ None
      go None h = refl
      go (Some p) h = cc

  -- places of marks on both sides differ, if the marks do
  pub sides_apart : ((v : ℕ) → IsTrue (has sources v) → IsFalse (has sinks v)) → (v : ℕ) → has from v ≡ true → has to v ≡ false
  sides_apart apart v h = false_from_ne_true _ (λ t.
      let s : has sources (id_at leaves v) ≡ true = subst (λ xs. has xs (id_at leaves v) ≡ true) from_is (map_has (id_at leaves) from v h) in
      let k : has sinks (id_at leaves v) ≡ true = subst (λ xs. has xs (id_at leaves v) ≡ true) to_is (map_has (id_at leaves) to v t) in
      false≢true (sym (apart (id_at leaves v) s) ∙ k))

  module _ (least : LeastCut) (s : Shown) (cut : least.cut.links.items ≡ least_links (wires net) from to) (sum : least.total ≡ weight (wires net) (has least.cut.links.items))
      (accepts : Accepts net from to least.cut.links.items least.flow.amounts.items) (told : IsTold part least s) where
    fs : List ℤ
    fs = least.flow.amounts.items

    cut_same : least.cut.links.items ≡ least_links (links_of part) sources sinks
    cut_same = cut ∙ sym cut_is

    total_same_as : weight (wires net) (has least.cut.links.items) ≡ cut_weight part sources sinks
    unfolding cut_weight
    total_same_as = ap (λ ks. weight (wires net) (has ks)) cut_same ∙ sym (weight_is (has (least_links (links_of part) sources sinks)))

    high_ends : EndsBelow (above part) (links_of part)
    unfolding links_of
    high_ends = ends_below part

    flow_is : IsFlow (above part) (links_of part) sources sinks least.flow.amounts.items
    flow_is =
        subst (λ ts. IsFlow (above part) (links_of part) sources ts least.flow.amounts.items) to_is
        (subst (λ ss. IsFlow (above part) (links_of part) ss (map (id_at leaves) to) least.flow.amounts.items) from_is
        (subst (λ ws. IsFlow (above part) ws (map (id_at leaves) from) (map (id_at leaves) to) least.flow.amounts.items) names
        (same_flow (id_at leaves) net.size (wires net) from to one ends from_below to_below least.flow.amounts.items accepts.flow (above part))))

    value_is : value (links_of part) least.flow.amounts.items sources ≡ pos (cut_weight part sources sinks)
    value_is =
        ap₂ (λ ws ss. value ws least.flow.amounts.items ss) (sym names) (sym from_is)
        ∙ (same_value (id_at leaves) net.size (wires net) from to one ends from_below to_below least.flow.amounts.items ∙ (accepts.equal ∙ ap pos total_same_as))

    plain : IsShown part sources sinks (record { cut = least_cut part sources sinks; total = cut_weight part sources sinks; flow = shown_flow part least.flow.amounts.items })
    plain = flow_shows (above part) part sources sinks least.flow.amounts.items is.ascending is.lesser high_ends flow_is value_is

    total_is : s.total ≡ cut_weight part sources sinks
    total_is = told.total ∙ (sum ∙ total_same_as)

    pub is_shown : IsShown part sources sinks s
    unfolding least_cut
    is_shown = record {
      cut = told.cut ∙ ap (map (pair_at part)) cut_same;
      total = total_is;
      ascending = subst (λ (cs : List Carry). PairsAscend (map carry_pair cs)) (sym told.flow) plain.ascending;
      within = subst (λ (cs : List Carry). AllByRecursion (IsCarry part) cs) (sym told.flow) plain.within;
      balanced = subst (λ (cs : List Carry). (v : ℕ) → IsFalse (has sources v) → IsFalse (has sinks v) → brought_to (map carried cs) v ≡ taken_from (map carried cs) v) (sym told.flow) plain.balanced;
      value = subst (λ (cs : List Carry). taken_out (map carried cs) (has sources) ≡ brought_in (map carried cs) (has sources) + s.total) (sym told.flow)
          (subst (λ n. taken_out (map carried (shown_flow part least.flow.amounts.items)) (has sources) ≡ brought_in (map carried (shown_flow part least.flow.amounts.items)) (has sources) + n) (sym total_is) plain.value);
    }
