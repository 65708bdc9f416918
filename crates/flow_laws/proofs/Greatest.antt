-- A greatest flow, found by augmenting walks.
use Rattle.std.proofs.Common.{◌≡◌, ℕ, zero, suc, ◌+◌, ◌<◌, ◌≤◌, Bool, true, false, cond, List, [], ◌∷◌, ◌++◌, map, length, ℤ, pos, nat_eq, sym, refl, ap, ◌∙◌, subst, inl, inr, ◌⊎◌, arith, ne_eqb}
use Rattle.std.specs.List.{list_any}
use Rattle.std.proofs.lemmas.Bool.{cases_Bool, false_from_ne_true, or_left, or_right}
use Rattle.graph_model.specs.Lists.{has}
use Rattle.graph_model.specs.Walks.{Reaches}
use Rattle.graph_model.specs.Components.{Inside, component_of}
use Rattle.graph_model.specs.Wires.{Wire, wire, EndsBelow}
use Rattle.graph_model.specs.Cuts.{Separates, weight, chosen, crosses, least_cut}
use Rattle.graph_model.specs.Flows.{amount, IsFlow, leaving, entering, value}
use Rattle.graph_model.specs.Residual.{Residual, IsLast}
use Rattle.graph_model.proofs.ListLemmas.{contra, has_head, has_tail, any_from, any_only}
use Rattle.graph_model.proofs.Walks.{has_decides, reach_self, reach_under}
use Rattle.graph_model.proofs.Components.{component_closed, component_self, component_joined}
use Rattle.graph_model.proofs.Computed.{has_append, chosen_at, weight_agree}
use Rattle.graph_model.proofs.Duality.{duality}
use Rattle.graph_model.proofs.Shown.{shown, shown_value}
use Rattle.min_cut.proofs.Flowing.{flowing_zero, flow_of}
use Rattle.flow_laws.proofs.Residues.{residual, residual_sound, residual_complete}
use Rattle.flow_laws.proofs.Augmenting.{Sent, along}

-- a list of the vertices that count: the sources and the ends of the links
abbrev vertices : List Wire → List ℕ → List ℕ
vertices ws sources = sources ++ (map (λ (w : Wire). w.a) ws ++ map (λ (w : Wire). w.b) ws)

map_has : (f : Wire → ℕ) (ws : List Wire) (k : ℕ) → k < length ws → has (map f ws) (f (wire ws k)) ≡ true
map_has f [] k l = absurd (omega arith)
map_has f (w ∷ ws) zero l = has_head (f w) (map f ws)
map_has f (w ∷ ws) (suc k) l = has_tail (f w) (map f ws) (f (wire ws k)) (map_has f ws k (omega arith))

-- a flow between the marks, which has sent so much
pub record Sends (n : ℕ) (ws : List Wire) (sources sinks : List ℕ) (fs : List ℤ) (sent : ℕ) : Type 0 where
  pub len : length fs ≡ length ws
  pub flow : IsFlow n ws sources sinks fs
  pub value : leaving ws fs (has sources) ≡ entering ws fs (has sources) + sent

module _ (n : ℕ) (ws : List Wire) (sources sinks : List ℕ) where
  module _ (fs : List ℤ) where
    -- what more can be sent to from s
    abbrev found : ℕ → List ℕ
    found s = component_of (residual ws fs) (vertices ws sources) s

    -- what more can be sent to from some source
    abbrev side : ℕ → Bool
    side v = list_any (λ s. has (found s) v) sources

    -- whether that holds a sink
    abbrev opens : Bool
    opens = list_any side sinks

    source_counts : (s : ℕ) → has sources s ≡ true → has (vertices ws sources) s ≡ true
    source_counts s h = has_append sources (map (λ (w : Wire). w.a) ws ++ map (λ (w : Wire). w.b) ws) s ∙ or_left _ _ h

    end_counts : (u v : ℕ) → Residual ws fs u v → has (vertices ws sources) v ≡ true
    end_counts u v (k, l, inl (a, b, r)) =
        let h : has (map (λ (w : Wire). w.b) ws) v ≡ true = subst (λ t. has (map (λ (w : Wire). w.b) ws) t ≡ true) b (map_has (λ w. w.b) ws k l) in
        has_append sources _ v ∙ or_right (has sources v) _ (has_append (map (λ (w : Wire). w.a) ws) (map (λ (w : Wire). w.b) ws) v ∙ or_right _ _ h)
    end_counts u v (k, l, inr (b, a, r)) =
        let h : has (map (λ (w : Wire). w.a) ws) v ≡ true = subst (λ t. has (map (λ (w : Wire). w.a) ws) t ≡ true) a (map_has (λ w. w.a) ws k l) in
        has_append sources _ v ∙ or_right (has sources v) _ (has_append (map (λ (w : Wire). w.a) ws) (map (λ (w : Wire). w.b) ws) v ∙ or_left _ _ h)

    found_reached : (s v : ℕ) → has (found s) v ≡ true → Reaches (Residual ws fs) s v
    found_reached s v h = reach_under (Inside (residual ws fs) (vertices ws sources)) (Residual ws fs) (λ _. Unit {0}) (λ x y i t. (residual_sound ws fs x y i.0, tt))
        s v ((component_joined (residual ws fs) (vertices ws sources) s v).0 h).1 tt

    last : opens ≡ false → IsLast ws sources sinks fs side
    last none = record {
      holds_sources = λ v h. any_from (λ s. has (found s) v) sources v h (component_self (residual ws fs) (vertices ws sources) v (source_counts v h));
      no_sink = λ v h. false_from_ne_true _ (λ t. contra opens (any_from side sinks v h t) none);
      closed = λ u v r h.
          let (s, i, f) = any_only (λ s. has (found s) u) sources h in
          any_from (λ s. has (found s) v) sources s i
          (component_closed (residual ws fs) (vertices ws sources) s (source_counts s i) u v f (residual_complete ws fs u v r) (end_counts u v r));
      reached = λ v h. let (s, i, f) = any_only (λ s. has (found s) v) sources h in (s, (has_decides sources s).0 i, found_reached s v f);
    }

  -- one unit more, from a source to a sink
  more : (fs gs : List ℤ) (sent s t : ℕ) (path : List ℕ) → ((v : ℕ) → has sources v ≡ true → has sinks v ≡ false) → Sends n ws sources sinks fs sent → Sent ws fs gs path s t
      → has sources s ≡ true → has sinks t ≡ true → Sends n ws sources sinks gs (suc sent)
  more fs gs sent s t path sides f p src snk = record {
    len = p.len;
    flow = record {
      fits = p.fits;
      balanced = λ v l a b.
          let m = p.moves.vertex v in
          let e = f.flow.balanced v l a b in
          let x : ◌≡◌ {A = ℕ} (cond (nat_eq t v) 1 0) 0 = rw (ne_eqb t v (λ q. contra (has sinks t) snk (ap (has sinks) q ∙ b))) refl in
          let y : ◌≡◌ {A = ℕ} (cond (nat_eq s v) 1 0) 0 = rw (ne_eqb s v (λ q. contra (has sources s) src (ap (has sources) q ∙ a))) refl in
          omega arith;
    };
    value =
        let m = p.moves.over (has sources) in
        let e = f.value in
        let x : ◌≡◌ {A = ℕ} (cond (has sources t) 1 0) 0 = rw (false_from_ne_true (has sources t) (λ h. contra (has sinks t) snk (sides t h))) refl in
        let y : ◌≡◌ {A = ℕ} (cond (has sources s) 1 0) 1 = rw src refl in
        omega arith;
  }

  -- the flow sends all that it can, or one unit more can be sent
  go_on : (fs : List ℤ) (sent : ℕ) → ((v : ℕ) → has sources v ≡ true → has sinks v ≡ false) → Sends n ws sources sinks fs sent
      → IsLast ws sources sinks fs (side fs) ⊎ ((gs : List ℤ) × Sends n ws sources sinks gs (suc sent))
  go_on fs sent sides f = elim (cases_Bool (opens fs)) [
    | inr none ↦ inl (last fs none)
    | inl some ↦
        let (t, snk, h) = any_only (side fs) sinks some in
        let (s, src, g) = any_only (λ s. has (found fs s) t) sources h in
        let (xs, w) = found_reached fs s t g in
        let (gs, p) = along ws fs f.len f.flow.fits (length xs) s xs t (omega arith) w in
        inr (gs, more fs gs sent s t (s ∷ xs) sides f p src snk)
  ]

  -- no flow sends more than a separating set weighs, so it ends
  search : (x : ℕ → Bool) → EndsBelow n ws → Separates ws sources sinks x → ((v : ℕ) → has sources v ≡ true → has sinks v ≡ false)
      → (m : ℕ) (fs : List ℤ) (sent : ℕ) → Sends n ws sources sinks fs sent → weight ws x ≤ sent + m
      → (gs : List ℤ) × (top : ℕ) × Sends n ws sources sinks gs top × IsLast ws sources sinks gs (side gs)
  search x ends sep sides zero fs sent f l = elim (go_on fs sent sides f) [
    | inl done ↦ (fs, sent, f, done)
    | inr (gs, g) ↦
        let d = duality n ws sources sinks gs ends g.flow x sep in
        let e = g.value in
        absurd (omega arith)
  ]
  search x ends sep sides (suc m) fs sent f l = elim (go_on fs sent sides f) [
    | inl done ↦ (fs, sent, f, done)
    | inr (gs, g) ↦ search x ends sep sides m gs (suc sent) g (omega arith)
  ]

zeros : List Wire → List ℤ
zeros ws = map (λ w. pos 0) ws

zero_at : (ws : List Wire) (k : ℕ) → amount (zeros ws) k ≡ pos 0
unfolding zeros
zero_at [] k = refl
zero_at (w ∷ ws) zero = refl
zero_at (w ∷ ws) (suc k) = zero_at ws k

zero_length : (ws : List Wire) → length (zeros ws) ≡ length ws
unfolding zeros
zero_length [] = refl
zero_length (w ∷ ws) = ap suc (zero_length ws)

pub exists : (n : ℕ) (ws : List Wire) (sources sinks : List ℕ) (x : ℕ → Bool) → EndsBelow n ws → Separates ws sources sinks x
    → (fs : List ℤ) × (length fs ≡ length ws) × IsFlow n ws sources sinks fs × (value ws fs sources ≡ pos (weight ws (has (least_cut ws sources sinks))))
exists n ws sources sinks x ends sep =
    let start = flowing_zero n ws sources (has sinks) (zeros ws) (zero_at ws) in
    let begun : Sends n ws sources sinks (zeros ws) 0 = record {
      len = zero_length ws;
      flow = flow_of n ws sources sinks (has sinks) (zeros ws) 0 (λ v. refl) start;
      value = start.value;
    } in
    let (fs, top, f, last) = search n ws sources sinks x ends sep sides (weight ws x) (zeros ws) 0 begun (omega arith) in
    let s = side n ws sources sinks fs in
    let same : weight ws (crosses ws s) ≡ weight ws (has (chosen (crosses ws s) (length ws))) =
    weight_agree ws (crosses ws s) (has (chosen (crosses ws s) (length ws))) (λ k l. sym (chosen_at (crosses ws s) (length ws) k l)) in (
      fs,
      f.len,
      f.flow,
      shown_value n ws sources sinks fs ends f.flow s last
          ∙ ap pos (same ∙ ap (λ ks. weight ws (has ks)) (shown n ws sources sinks fs ends f.flow s last)),
    )
  where
    sides : (v : ℕ) → has sources v ≡ true → has sinks v ≡ false
    sides v h = false_from_ne_true _ (λ t. sep.apart v ((has_decides sinks v).0 t) (v, (has_decides sources v).0 h, reach_self _ v))
