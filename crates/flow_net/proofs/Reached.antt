-- Marks that spread over links outside a set.
use Rattle.std.proofs.Common.{◌≡◌, ℕ, zero, suc, ◌+◌, ◌-◌, ◌*◌, ◌<◌, ◌≤◌, Bool, true, false, cond, List, [], ◌∷◌, length, get_or, map, nat_eq, None, is_some, sym, refl, ap, ◌∙◌, subst, inl, inr, ◌⊎◌, arith, eq-or-lt_of_le, count_by, find, All, eq-eqb, le_refl, zero-le, ◌||◌}
use Rattle.std.proofs.Math.ListN.{set}
use Rattle.std.proofs.lemmas.Grind.{common_steps}
use Rattle.std.proofs.lemmas.List.Sums.{sum_by-cons}
use Rattle.std.proofs.lemmas.List.{length-map, get_or_past, get_or-set_other}
use Rattle.std.proofs.lemmas.Bool.{cases_Bool, cases_eq, cases_lt, false≢true, or_cases, false_from_ne_true}
use Rattle.std.proofs.Math.Bool.{beq, or-false}
use Rattle.flow_net.specs.declared.Link.{Link}
use Rattle.graph_model.specs.Lists.{has}
use Rattle.graph_model.specs.Wires.{Wire, wire, EndsBelow}
use Rattle.graph_model.specs.Cuts.{label, Linked, joined_outside, on_source_side, first_sink, first_open}
use Rattle.graph_model.proofs.FirstOpen.{find_same, find_none, find_none_at, open_none}
use Rattle.graph_model.proofs.Labels.{label_same}
use Rattle.graph_model.proofs.Least.{outside_joined}
use Rattle.graph_model.proofs.ListLemmas.{any_from, any_only, any_default}
use Rattle.graph_model.proofs.Walks.{reach_keeps, has_decides}
use Rattle.flow_net.specs.Net.{wire_of}
use Rattle.flow_net.specs.Marks.{Spreads, IsSwept, KeepsMarks, MarksOnly, labels_a_source, turned}
use Rattle.flow_net.proofs.Searches.{wire_is}

-- the ends of a link of a list of links
pub ends_at : (n : ℕ) (ls : List Link) (k : ℕ) (d : Link) → EndsBelow n (map wire_of ls) → k < length ls → ((get_or ls k d).a < n) × ((get_or ls k d).b < n)
ends_at n ls k d e l = let h = e k (rw length-map l) in
    (subst (λ (w : Wire). w.a < n) (wire_is ls k d l) h.0, subst (λ (w : Wire). w.b < n) (wire_is ls k d l) h.1)

spread_sound : (ws : List Wire) (x : ℕ → Bool) (p : ℕ → Bool) (k : ℕ) (old new : List Bool) → k < length ws → x k ≡ false →
    Spreads old new (wire ws k).a (wire ws k).b → MarksOnly ws x p old → MarksOnly ws x p new
spread_sound ws x p k old new l o s m v t =
    let e = label_same ws x (length ws) k l o in
    let both : (p (label ws x (length ws) (wire ws k).a) ≡ true) × (p (label ws x (length ws) (wire ws k).b) ≡ true) =
    elim (or_cases _ _ s.either) [
      | inl a ↦ let h = m _ a in (h, ap p (sym e) ∙ h)
      | inr b ↦ let h = m _ b in (ap p e ∙ h, h)
    ] in
    elim (s.marks v t) [
      | inl h ↦ m v h
      | inr (inl h) ↦ ap (λ u. p (label ws x (length ws) u)) h ∙ both.0
      | inr (inr h) ↦ ap (λ u. p (label ws x (length ws) u)) h ∙ both.1
    ]

-- each number is that of a step
turned_back : (m : ℕ) (backwards : Bool) (k : ℕ) → k < m → turned m backwards (turned m backwards k) ≡ k
turned_back m true k l = omega arith
turned_back m false k l = refl

pub turned_below : (m : ℕ) (backwards : Bool) (k : ℕ) → k < m → turned m backwards k < m
turned_below m true k l = omega arith
turned_below m false k l = l

-- a sweep that has made this many steps
pub record SweptBelow (ws : List Wire) (x : ℕ → Bool) (backwards : Bool) (old seen : List Bool) (changed : Bool) (step : ℕ) : Type 0 where
  pub len : length seen ≡ length old
  pub kept : KeepsMarks old seen
  pub sound : (p : ℕ → Bool) → MarksOnly ws x p old → MarksOnly ws x p seen
  pub grown : changed ≡ true → count_by (λ s. s) old < count_by (λ s. s) seen
  pub same : changed ≡ false → seen ≡ old
  pub swept : changed ≡ false → (j : ℕ) → j < step → (k : ℕ) → k ≡ turned (length ws) backwards j → x k ≡ false →
      get_or old (wire ws k).a false ≡ get_or old (wire ws k).b false

module _ (ws : List Wire) (x : ℕ → Bool) (backwards : Bool) (old : List Bool) where
  pub swept_none : SweptBelow ws x backwards old old false 0
  swept_none = record {
    len = refl;
    kept = λ v t. t;
    sound = λ p m. m;
    grown = λ h. absurd (false≢true h);
    same = λ _. refl;
    swept = λ _ j l. absurd (omega arith);
  }

  pub swept_spread : (seen new : List Bool) (changed : Bool) (step k : ℕ) → SweptBelow ws x backwards old seen changed step → k < length ws → x k ≡ false →
      length new ≡ length seen → Spreads seen new (wire ws k).a (wire ws k).b → SweptBelow ws x backwards old new true (step + 1)
  swept_spread seen new changed step k i l o e s = record {
    len = e ∙ i.len;
    kept = λ v t. s.keeps v (i.kept v t);
    sound = λ p m. spread_sound ws x p k seen new l o s (i.sound p m);
    grown = λ _. let c = s.counts in elim (cases_Bool changed) [
      | inl t ↦ let g = i.grown t in omega arith
      | inr f ↦ let g = ap (count_by (λ (s : Bool). s)) (i.same f) in omega arith
    ];
    same = λ h. absurd (false≢true (sym h));
    swept = λ h. absurd (false≢true (sym h));
  }

  pub swept_same : (seen : List Bool) (changed : Bool) (step k : ℕ) → SweptBelow ws x backwards old seen changed step → k ≡ turned (length ws) backwards step →
      (x k ≡ true) ⊎ (get_or seen (wire ws k).a false ≡ get_or seen (wire ws k).b false) → SweptBelow ws x backwards old seen changed (step + 1)
  swept_same seen changed step k i t h = record {
    len = i.len;
    kept = i.kept;
    sound = i.sound;
    grown = i.grown;
    same = i.same;
    swept = λ f j l n m o. let b : j ≤ step = omega arith in elim (eq-or-lt_of_le b) [
      | inr s ↦ i.swept f j s n m o
      | inl e ↦ let g : n ≡ k = m ∙ (ap (turned (length ws) backwards) e ∙ sym t) in elim h [
        | inl y ↦ absurd (false≢true (sym o ∙ (ap x g ∙ y)))
        | inr y ↦ rw g (subst (λ (s : List Bool). get_or s (wire ws k).a false ≡ get_or s (wire ws k).b false) (i.same f) y)
      ]
    ];
  }

  pub swept_done : (seen : List Bool) (changed : Bool) (step : ℕ) → SweptBelow ws x backwards old seen changed step → length ws ≤ step → changed ≡ false → IsSwept ws x seen
  swept_done seen changed step i e f k l o =
      let b = turned_below (length ws) backwards k l in
      rw (i.same f) (i.swept f (turned (length ws) backwards k) (omega arith) k (sym (turned_back (length ws) backwards k l)) o)

-- marks that are swept, hold the sources and have their labels alone are what the sources are joined to
pub swept_all : (ws : List Wire) (x : ℕ → Bool) (sources : List ℕ) (seen : List Bool) → ((s : ℕ) → has sources s ≡ true → get_or seen s false ≡ true) →
    MarksOnly ws x (labels_a_source ws x sources) seen → IsSwept ws x seen → (v : ℕ) → get_or seen v false ≡ on_source_side ws sources x v
swept_all ws x sources seen own only swept v = elim (cases_Bool (get_or seen v false)) [
  | inl t ↦ t ∙ sym (only v t)
  | inr f ↦ f ∙ sym (false_from_ne_true _ (λ t.
      let (s, h, j) = any_only (λ s. joined_outside ws x s v) sources t in
      false≢true (sym f ∙ reach_keeps (Linked ws x) (λ u. get_or seen u false ≡ true) step s v ((outside_joined ws x s v).0 j) (own s h))))
]
  where
    step : (u w : ℕ) → Linked ws x u w → get_or seen u false ≡ true → get_or seen w false ≡ true
    step u w (k, l, o, inl (a, b)) t = ap (λ z. get_or seen z false) (sym b) ∙ (sym (swept k l o) ∙ (ap (λ z. get_or seen z false) a ∙ t))
    step u w (k, l, o, inr (a, b)) t = ap (λ z. get_or seen z false) (sym a) ∙ (swept k l o ∙ (ap (λ z. get_or seen z false) b ∙ t))

-- marks on sources alone
pub marks_sources : (ws : List Wire) (x : ℕ → Bool) (sources : List ℕ) (seen : List Bool) → ((v : ℕ) → v < length seen → get_or seen v false ≡ has sources v) →
    MarksOnly ws x (labels_a_source ws x sources) seen
marks_sources ws x sources seen h v t = elim (cases_lt v (length seen)) [
  | inl l ↦ any_from (λ s. nat_eq (label ws x (length ws) s) (label ws x (length ws) v)) sources v (sym (h v l) ∙ t) (eq-eqb _ _ refl)
  | inr l ↦ absurd (false≢true (sym (get_or_past seen v false l) ∙ t))
]

pub sources_marked : (sources : List ℕ) (seen : List Bool) → All (λ s. s < length seen) sources → ((v : ℕ) → v < length seen → get_or seen v false ≡ has sources v) →
    (s : ℕ) → has sources s ≡ true → get_or seen s false ≡ true
sources_marked sources seen b h s t =
    let (i, l, e) = (has_decides sources s).0 t in
    h s (subst (λ u. u < length seen) e (b i s l)) ∙ t

-- the measure of repeated sweeps
pub sweep_falls : (n a b : ℕ) (changed : Bool) → (changed ≡ true → a < b) → (changed ≡ false → a ≤ b) → b ≤ n →
    (n - b) * 2 + cond changed 1 0 < (n - a) * 2 + 1
sweep_falls n a b true h g l = let k = h refl in omega arith
sweep_falls n a b false h g l = let k = g refl in omega arith

first_kept : (o n : Bool) → (o ≡ true → n ≡ true) → cond o 1 0 ≤ cond n 1 0
first_kept true n h = rw (h refl) (le_refl 1)
first_kept false n h = zero-le

pub kept_count : (old new : List Bool) → KeepsMarks old new → length new ≡ length old → count_by (λ s. s) old ≤ count_by (λ s. s) new
kept_count [] new k e = zero-le
kept_count (o ∷ os) [] k e = absurd (omega arith)
kept_count (o ∷ os) (n ∷ ns) k e =
    let i : count_by (λ s. s) os ≤ count_by (λ s. s) ns = kept_count os ns (λ v t. k (suc v) t) (omega arith) in
    let h : cond o 1 0 ≤ cond n 1 0 = first_kept o n (k zero) in
    let a = sum_by-cons (λ (s : Bool). cond s 1 0) o os in
    let b = sum_by-cons (λ (s : Bool). cond s 1 0) n ns in
    omega arith

-- the marks that reach leaves, and the first marked sink
pub same_sink : (ws : List Wire) (x : ℕ → Bool) (sinks : List ℕ) (s : ℕ) (seen : List Bool) →
    ((v : ℕ) → v < length seen → get_or seen v false ≡ on_source_side ws (s ∷ []) x v) → All (λ t. t < length seen) sinks →
    find (λ t. get_or seen t false) sinks ≡ first_sink ws x sinks s
same_sink ws x sinks s seen h b = find_same (λ t. get_or seen t false) (λ t. joined_outside ws x s t) sinks (λ k d l. h _ (b k d l) ∙ or-false _)

-- where no sink is marked no source is joined to one
pub no_sink : (ws : List Wire) (x : ℕ → Bool) (sources sinks : List ℕ) (seen : List Bool) →
    ((v : ℕ) → v < length seen → get_or seen v false ≡ on_source_side ws sources x v) → All (λ t. t < length seen) sinks →
    find (λ t. get_or seen t false) sinks ≡ None → first_open ws x sources sinks ≡ None
no_sink ws x sources sinks seen h b e = open_none ws x sources sinks (λ k l.
    let s = get_or sources k 0 in
    let c : has sources s ≡ true = (has_decides sources s).1 (k, l, any_default sources k s 0 l) in
    ap is_some (find_none (λ t. joined_outside ws x s t) sinks 0 (λ j m.
    let t = get_or sinks j 0 in
    false_from_ne_true _ (λ y. false≢true (sym (find_none_at (λ t. get_or seen t false) sinks e j 0 m)
    ∙ (h t (b j 0 m) ∙ any_from (λ r. joined_outside ws x r t) sources s c y))))))

-- of two different marks the other one
pub other_false : (x y : Bool) → beq x y ≡ false → x ≡ true → y ≡ false
other_false true false e t = refl
other_false true true e t = absurd (false≢true (sym e))
other_false false y e t = absurd (false≢true t)

pub other_true : (x y : Bool) → beq x y ≡ false → x ≡ false → y ≡ true
other_true false true e f = refl
other_true false false e f = absurd (false≢true (sym e))
other_true true y e f = absurd (false≢true (sym f))

-- the marks with one more at j, beside a marked one
spreads_at : (old : List Bool) (a b j : ℕ) → j < length old → get_or old j false ≡ false → (j ≡ a) ⊎ (j ≡ b)
    → (get_or old a false || get_or old b false) ≡ true → Spreads old (set old j true) a b
spreads_at old a b j l f is e = record {
  either = e;
  marks = λ v t. elim (cases_eq v j) [
    | inl s ↦ inr (elim is [ inl p ↦ inl (s ∙ p) | inr p ↦ inr (s ∙ p) ])
    | inr n ↦ inl (sym (get_or-set_other old j v true false n) ∙ t)
  ];
  keeps = λ v t. elim (cases_eq v j) [
    | inl s ↦ absurd (false≢true (sym f ∙ (ap (λ i. get_or old i false) (sym s) ∙ t)))
    | inr n ↦ get_or-set_other old j v true false n ∙ t
  ];
  counts = grind (arith, common_steps);
}

pub spreads_to : (old : List Bool) (a b : ℕ) → b < length old → get_or old a false ≡ true → get_or old b false ≡ false → Spreads old (set old b true) a b
spreads_to old a b l t f = spreads_at old a b b l f (inr refl) (rw t refl)

pub spreads_back : (old : List Bool) (a b : ℕ) → a < length old → get_or old a false ≡ false → get_or old b false ≡ true → Spreads old (set old a true) a b
spreads_back old a b l f t = spreads_at old a b a l f (inl refl) (rw (f, t) refl)
