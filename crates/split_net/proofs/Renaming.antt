-- The net of a component's edges, between places.
use Rattle.std.proofs.Common.{◌≡◌, ℕ, zero, suc, ◌<◌, true, false, ◌&&◌, eqb, ltb, List, [], ◌∷◌, length, map, get_or, None, refl, sym, ◌∙◌, ap, ap₂, subst, inl, inr, arith, ltb-true}
use Rattle.std.proofs.lemmas.Bool.{or_cases, and_parts}
use Rattle.std.proofs.lemmas.List.{get_or-map, length-map}
use Rattle.flow_net.specs.declared.Link.{Link}
use Rattle.op_model.specs.declared.base.Pair.{Pair}
use Rattle.op_model.specs.declared.base.Edge.{Edge}
use Rattle.op_model.specs.declared.base.Weight.TheVariants.{Glue}
use Rattle.graph_model.specs.Wires.{Wire, wire, no_wire, renamed}
use Rattle.flow_net.specs.Net.{IsNet, wire_of}
use Rattle.op_model.specs.Edges.{pair_before}
use Rattle.op_model.specs.Cuts.{PairsAscend, link_of, links_of, no_pair}
use Rattle.op_model.proofs.OrderLemmas.{before_trans}
use Rattle.split_net.specs.Parts.{AreBelow, IsPart, id_at, named}
use Rattle.split_net.proofs.Placing.{all_at}

-- the links with the leaves' names are those of the edges
pub links_renamed : (leaves : List ℕ) (links : List Link) → renamed (id_at leaves) (map wire_of links) ≡ map (named leaves) links
links_renamed leaves [] = refl
links_renamed leaves (l ∷ ls) = ap (λ ws. named leaves l ∷ ws) (links_renamed leaves ls)

before_at : (ps : List Pair) → PairsAscend ps → (j k : ℕ) → j < k → k < length ps → pair_before (get_or ps j no_pair) (get_or ps k no_pair) ≡ true
before_at [] a j k l m = absurd (omega arith)
before_at (p ∷ []) a j k l m = absurd (omega arith)
before_at (p ∷ q ∷ ps) a j zero l m = absurd (omega arith)
before_at (p ∷ q ∷ ps) a zero (suc zero) l m = a.0
before_at (p ∷ q ∷ ps) a zero (suc (suc k)) l m = before_trans p q (get_or ps k no_pair) a.0 (before_at (q ∷ ps) a.1 zero (suc k) (omega arith) (omega arith))
before_at (p ∷ q ∷ ps) a (suc j) (suc k) l m = before_at (q ∷ ps) a.1 j k (omega arith) (omega arith)

before_apart : (p q : Pair) → pair_before p q ≡ true → p.a ≡ q.a → p.b ≡ q.b → ⊥
unfolding pair_before
before_apart p q h e f = elim (or_cases (ltb p.a q.a) (eqb p.a q.a && ltb p.b q.b) h) [
  | inl l ↦ let s : p.a < q.a = ltb-true p.a q.a l in omega (arith, s, e)
  | inr r ↦ let s : p.b < q.b = ltb-true p.b q.b (and_parts (eqb p.a q.a) (ltb p.b q.b) r).1 in omega (arith, s, f)
]

no_link : Link
no_link = record { a = 0; b = 0; room = None }

no_edge : Edge
no_edge = record { pair = no_pair; weight = Glue; active = false }

module _ (leaves : List ℕ) (part : List Edge) (links : List Link) (is : IsPart leaves part) (same : map (named leaves) links ≡ links_of part) (below : AreBelow (length leaves) links) where
  pub count_same : length links ≡ length part
  unfolding links_of
  count_same = sym (length-map links (named leaves)) ∙ (ap (λ (ws : List Wire). length ws) same ∙ length-map part link_of)

  link : ℕ → Link
  link k = get_or links k no_link

  edge : ℕ → Edge
  edge k = get_or part k no_edge

  wire_is : (k : ℕ) → k < length links → wire (map wire_of links) k ≡ wire_of (get_or links k no_link)
  wire_is k l = get_or-map wire_of links k no_link no_wire l

  a_is : (k : ℕ) → k < length links → id_at leaves (wire (map wire_of links) k).a ≡ (get_or part k no_edge).pair.a
  unfolding links_of link_of
  a_is k l =
      let m : k < length part = omega (arith, count_same) in
      ap (λ (w : Wire). id_at leaves w.a) (wire_is k l)
      ∙ (ap (λ (w : Wire). w.a) (sym (get_or-map (named leaves) links k no_link no_wire l)) ∙ (ap (λ (ws : List Wire). (get_or ws k no_wire).a) same ∙ ap (λ (w : Wire). w.a) (get_or-map link_of part k no_edge no_wire m)))

  b_is : (k : ℕ) → k < length links → id_at leaves (wire (map wire_of links) k).b ≡ (get_or part k no_edge).pair.b
  unfolding links_of link_of
  b_is k l =
      let m : k < length part = omega (arith, count_same) in
      ap (λ (w : Wire). id_at leaves w.b) (wire_is k l)
      ∙ (ap (λ (w : Wire). w.b) (sym (get_or-map (named leaves) links k no_link no_wire l)) ∙ (ap (λ (ws : List Wire). (get_or ws k no_wire).b) same ∙ ap (λ (w : Wire). w.b) (get_or-map link_of part k no_edge no_wire m)))

  ordered : (k : ℕ) → k < length links → (get_or part k no_edge).pair.a < (get_or part k no_edge).pair.b
  ordered k l = let m : k < length part = omega (arith, count_same) in all_at (λ (e : Edge). e.pair.a < e.pair.b) part k (get_or part k no_edge) m (own part k m) is.lesser
    where
      own : (es : List Edge) (i : ℕ) → i < length es → get_or es i no_edge ≡ get_or es i (get_or es i no_edge)
      own [] i n = absurd (omega arith)
      own (e ∷ es) zero n = refl
      own (e ∷ es) (suc i) n = own es i (omega arith)

  earlier : (j k : ℕ) → j < k → k < length links → pair_before (get_or part j no_edge).pair (get_or part k no_edge).pair ≡ true
  earlier j k h l =
      let m : k < length part = omega (arith, count_same) in
      let n : j < length part = omega (arith, count_same) in
      ap₂ pair_before (sym (get_or-map (λ (e : Edge). e.pair) part j no_edge no_pair n)) (sym (get_or-map (λ (e : Edge). e.pair) part k no_edge no_pair m))
      ∙ before_at (map (λ e. e.pair) part) is.ascending j k h (rw length-map m)

  within : (k : ℕ) → k < length links → ((wire (map wire_of links) k).a < length leaves) × ((wire (map wire_of links) k).b < length leaves)
  within k l = let p = each links k l below in (subst (λ (w : Wire). w.a < length leaves) (sym (wire_is k l)) p.0, subst (λ (w : Wire). w.b < length leaves) (sym (wire_is k l)) p.1)
    where
      each : (ls : List Link) (i : ℕ) → i < length ls → AreBelow (length leaves) ls → ((get_or ls i no_link).a < length leaves) × ((get_or ls i no_link).b < length leaves)
      each [] i n a = absurd (omega arith)
      each (x ∷ xs) zero n a = a.0
      each (x ∷ xs) (suc i) n a = each xs i (omega arith) a.1

  pub is_net : IsNet (record { size = length leaves; links = links })
  is_net = record {
    below = within;
    apart = λ k l e. let o = ordered k l in let p = sym (a_is k l) ∙ (ap (id_at leaves) e ∙ b_is k l) in omega (arith, o, p);
    once = λ j k h l s.
        let m : j < length links = omega arith in
        let aj = a_is j m in
        let bj = b_is j m in
        let ak = a_is k l in
        let bk = b_is k l in
        elim s [
          | inl e ↦ before_apart (get_or part j no_edge).pair (get_or part k no_edge).pair (earlier j k h l) (sym aj ∙ (ap (id_at leaves) e.0 ∙ ak)) (sym bj ∙ (ap (id_at leaves) e.1 ∙ bk))
          | inr e ↦
              let oj = ordered j m in
              let ok = ordered k l in
              let p = sym aj ∙ (ap (id_at leaves) e.0 ∙ bk) in
              let q = sym bj ∙ (ap (id_at leaves) e.1 ∙ ak) in
              omega (arith, oj, ok, p, q)
        ];
  }

  pub net_named : renamed (id_at leaves) (map wire_of links) ≡ links_of part
  net_named = links_renamed leaves links ∙ same
