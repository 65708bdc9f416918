-- What walks of glue join.
use Rattle.std.proofs.Common.{◌≡◌, ℕ, zero, suc, ◌+◌, ◌<◌, ◌≤◌, Bool, true, false, List, [], ◌∷◌, length, get_or, set, Option, Some, None, is_some, find, IfNone, sym, refl, ap, ◌∙◌, subst, inl, inr, ◌⊎◌, arith, get_or-set_same, le_refl, eq-or-lt_of_le, eq-eqb, ne_eqb, Contains}
use Rattle.std.proofs.lemmas.List.{get_or-set_other}
use Rattle.std.proofs.lemmas.Bool.{cases_Bool, cases_eq, false≢true}
use Rattle.graph_model.specs.Walks.{Reaches}
use Rattle.graph_model.specs.Wires.{Wire}
use Rattle.graph_model.specs.Lists.{has}
use Rattle.graph_model.specs.Cuts.{Linked, is_affinity, label, joined_outside, first_sink, first_open}
use Rattle.graph_model.proofs.Walks.{reach_keeps, reach_more, reach_back, has_decides}
use Rattle.graph_model.proofs.Labels.{label_same, label_reached, joined_back}
use Rattle.graph_model.proofs.FirstOpen.{find_same, apart_none}
use Rattle.min_cut.specs.declared.search.Visit.{Visit}
use Rattle.min_cut.specs.Tree.{visit_at}
use Rattle.min_cut.specs.Arcs.{HasArc, IsArcs}
use Rattle.min_cut.specs.Queue.{IsQueue}
use Rattle.min_cut.specs.Gluing.{GlueOver, OnlyLabel, Glues}

-- glue has one label
pub label_glue : (ws : List Wire) (k u w : ℕ) → k < length ws → GlueOver ws k u w → label ws (is_affinity ws) (length ws) u ≡ label ws (is_affinity ws) (length ws) w
label_glue ws k u w l (g, inl (a, b)) = ap (label ws (is_affinity ws) (length ws)) (sym a) ∙ (label_same ws (is_affinity ws) (length ws) k l g ∙ ap (label ws (is_affinity ws) (length ws)) b)
label_glue ws k u w l (g, inr (a, b)) = ap (label ws (is_affinity ws) (length ws)) (sym b) ∙ (sym (label_same ws (is_affinity ws) (length ws) k l g) ∙ ap (label ws (is_affinity ws) (length ws)) a)

module _ (old new : List (Option Visit)) (to : ℕ) (y : Visit) (l : to < length old)
    (same : is_some (visit_at old to) ≡ true → new ≡ old) (put : is_some (visit_at old to) ≡ false → new ≡ set old to (Some y)) where
  pub put_at : is_some (visit_at new to) ≡ true
  put_at = elim (cases_Bool (is_some (visit_at old to))) [
    | inl t ↦ subst (λ (vs : List (Option Visit)). is_some (visit_at vs to) ≡ true) (sym (same t)) t
    | inr f ↦ subst (λ (vs : List (Option Visit)). is_some (visit_at vs to) ≡ true) (sym (put f)) (ap is_some (get_or-set_same old to (Some y) None l))
  ]

  pub put_kept : (v : ℕ) → is_some (visit_at old v) ≡ true → is_some (visit_at new v) ≡ true
  put_kept v h = elim (cases_eq v to) [
    | inl e ↦ subst (λ v. is_some (visit_at new v) ≡ true) (sym e) put_at
    | inr d ↦ elim (cases_Bool (is_some (visit_at old to))) [
      | inl t ↦ subst (λ (vs : List (Option Visit)). is_some (visit_at vs v) ≡ true) (sym (same t)) h
      | inr f ↦ subst (λ (vs : List (Option Visit)). is_some (visit_at vs v) ≡ true) (sym (put f)) (ap is_some (get_or-set_other old to v (Some y) None d) ∙ h)
    ]
  ]

  put_only : (v : ℕ) → is_some (visit_at new v) ≡ true → (is_some (visit_at old v) ≡ true) ⊎ (v ≡ to)
  put_only v h = elim (cases_eq v to) [
    | inl e ↦ inr e
    | inr d ↦ elim (cases_Bool (is_some (visit_at old to))) [
      | inl t ↦ inl (subst (λ (vs : List (Option Visit)). is_some (visit_at vs v) ≡ true) (same t) h)
      | inr f ↦ inl (sym (ap is_some (get_or-set_other old to v (Some y) None d)) ∙ subst (λ (vs : List (Option Visit)). is_some (visit_at vs v) ≡ true) (put f) h)
    ]
  ]

  pub put_glues : (ws : List Wire) (k from : ℕ) (queue newer : List ℕ) (before tail : ℕ) → k < length ws → is_some (visit_at old from) ≡ true → (to ≡ from) ⊎ GlueOver ws k from to →
      IsQueue new newer tail → before ≤ tail → ((i : ℕ) → i < before → get_or newer i 0 ≡ get_or queue i 0) → Glues ws old new queue newer before tail
  put_glues ws k from queue newer before tail b s j q m p = record {
    kept = put_kept;
    sound = λ r o v h. elim (put_only v h) [
      | inl t ↦ o v t
      | inr e ↦ ap (label ws (is_affinity ws) (length ws)) e ∙ (elim j [ inl f ↦ ap (label ws (is_affinity ws) (length ws)) f | inr g ↦ sym (label_glue ws k from to b g) ] ∙ o from s)
    ];
    holds = q;
    more = m;
    places = p;
  }

pub glues_none : (ws : List Wire) (visits : List (Option Visit)) (queue : List ℕ) (tail : ℕ) → IsQueue visits queue tail → Glues ws visits visits queue queue tail tail
glues_none ws visits queue tail q = record { kept = λ v h. h; sound = λ r o. o; holds = q; more = le_refl tail; places = λ i l. refl }

pub glues_then : (ws : List Wire) (old new newer : List (Option Visit)) (queue queued queuer : List ℕ) (before tail end : ℕ) →
    Glues ws old new queue queued before tail → Glues ws new newer queued queuer tail end → Glues ws old newer queue queuer before end
glues_then ws old new newer queue queued queuer before tail end a b =
    let x = a.more in
    let y = b.more in
    record {
      kept = λ v h. b.kept v (a.kept v h);
      sound = λ r o. b.sound r (a.sound r o);
      holds = b.holds;
      more = omega arith;
      places = λ i l. b.places i (omega arith) ∙ a.places i l;
    }

-- what glue joins to the vertices of the queue below `head` is visited
pub record Spread (ws : List Wire) (visits : List (Option Visit)) (queue : List ℕ) (head : ℕ) : Type 0 where
  pub each : (i w : ℕ) → i < head → Linked ws (is_affinity ws) (get_or queue i 0) w → is_some (visit_at visits w) ≡ true

pub spread_more : (n : ℕ) (ws : List Wire) (starts arcs : List ℕ) (old new : List (Option Visit)) (queue newer : List ℕ) (head tail end : ℕ) →
    IsArcs n ws starts arcs → head < tail → Glues ws old new queue newer tail end →
    ((k w : ℕ) → HasArc starts arcs (get_or queue head 0) k → GlueOver ws k (get_or queue head 0) w → is_some (visit_at new w) ≡ true) →
    Spread ws old queue head → Spread ws new newer (head + 1)
spread_more n ws starts arcs old new queue newer head tail end sound below g closed s = record {
  each = λ i w l r. let b : i ≤ head = omega arith in elim (eq-or-lt_of_le b) [
    | inl e ↦ let p : get_or newer i 0 ≡ get_or queue head 0 = ap (λ j. get_or newer j 0) e ∙ g.places head below in
        here w (subst (λ u. Linked ws (is_affinity ws) u w) p r)
    | inr h ↦ let p : get_or newer i 0 ≡ get_or queue i 0 = g.places i (omega arith) in
        g.kept w (s.each i w h (subst (λ u. Linked ws (is_affinity ws) u w) p r))
  ];
}
  where
    here : (w : ℕ) → Linked ws (is_affinity ws) (get_or queue head 0) w → is_some (visit_at new w) ≡ true
    here w (k, l, x, inl (a, b)) = closed k w (subst (λ u. HasArc starts arcs u k) a (sound.each k l).0) (x, inl (a, b))
    here w (k, l, x, inr (a, b)) = closed k w (subst (λ u. HasArc starts arcs u k) b (sound.each k l).1) (x, inr (a, b))

pub spread_all : (ws : List Wire) (visits : List (Option Visit)) (queue : List ℕ) (head tail : ℕ) → IsQueue visits queue tail → tail ≤ head → Spread ws visits queue head →
    (u w : ℕ) → Linked ws (is_affinity ws) u w → is_some (visit_at visits u) ≡ true → is_some (visit_at visits w) ≡ true
spread_all ws visits queue head tail q l s u w r h = go (visit_at visits u) refl h
  where
    go : (o : Option Visit) → visit_at visits u ≡ o → is_some o ≡ true → is_some (visit_at visits w) ≡ true
    go None e h = absurd (false≢true h)
    go (Some visit) e h = let (i, b, p) = q.queued u visit e in s.each i w (omega arith) (subst (λ x. Linked ws (is_affinity ws) x w) (sym p) r)

-- what was found from one source
pub reached_one : (ws : List Wire) (s : ℕ) (visits : List (Option Visit)) → is_some (visit_at visits s) ≡ true →
    ((u w : ℕ) → Linked ws (is_affinity ws) u w → is_some (visit_at visits u) ≡ true → is_some (visit_at visits w) ≡ true) →
    OnlyLabel ws (label ws (is_affinity ws) (length ws) s) visits →
    (v : ℕ) → is_some (visit_at visits v) ≡ joined_outside ws (is_affinity ws) s v
reached_one ws s visits own closed only v = elim (cases_Bool (is_some (visit_at visits v))) [
  | inl t ↦ t ∙ sym (eq-eqb _ _ (sym (only v t)))
  | inr f ↦ f ∙ sym (ne_eqb _ _ (λ e. false≢true (sym f ∙ reach_keeps (Linked ws x) (λ u. is_some (visit_at visits u) ≡ true) closed s v
      (reach_more (Linked ws x) s (label ws x (length ws) s) v (label_reached ws x (length ws) (le_refl _) s)
      (subst (λ u. Reaches (Linked ws x) u v) (sym e) (reach_back (Linked ws x) (joined_back ws x) v (label ws x (length ws) v) (label_reached ws x (length ws) (le_refl _) v)))) own)))
]
  where
    x : ℕ → Bool
    x = is_affinity ws

pub same_sink : (ws : List Wire) (sinks : List ℕ) (s : ℕ) (visits : List (Option Visit)) → ((v : ℕ) → is_some (visit_at visits v) ≡ joined_outside ws (is_affinity ws) s v) →
    find (λ t. is_some (visit_at visits t)) sinks ≡ first_sink ws (is_affinity ws) sinks s
same_sink ws sinks s visits h = find_same (λ t. is_some (visit_at visits t)) (λ t. joined_outside ws (is_affinity ws) s t) sinks (λ k d l. h _)

pub own_source : (s : ℕ) → has (s ∷ []) s ≡ true
own_source s = (has_decides (s ∷ []) s).1 (0, omega arith, refl)

pub only_source : (s v : ℕ) → has (s ∷ []) v ≡ true → v ≡ s
only_source s v h = go ((has_decides (s ∷ []) v).0 h)
  where
    go : Contains (s ∷ []) v → v ≡ s
    go (zero, l, e) = sym e
    go (suc j, l, e) = absurd (omega arith)

-- no source is joined to a sink where what the sources reach holds none
pub none_open : (ws : List Wire) (sources sinks : List ℕ) (visits : List (Option Visit)) → ((v : ℕ) → has sources v ≡ true → is_some (visit_at visits v) ≡ true) →
    ((u w : ℕ) → Linked ws (is_affinity ws) u w → is_some (visit_at visits u) ≡ true → is_some (visit_at visits w) ≡ true) →
    ((v : ℕ) → has sinks v ≡ true → is_some (visit_at visits v) ≡ false) → first_open ws (is_affinity ws) sources sinks ≡ None
none_open ws sources sinks visits each closed none = apart_none ws (is_affinity ws) sources sinks
    (λ t c (s, d, r). false≢true (sym (none t ((has_decides sinks t).1 c)) ∙ reach_keeps (Linked ws (is_affinity ws)) (λ u. is_some (visit_at visits u) ≡ true) closed s t r (each s ((has_decides sources s).1 d))))

-- the first sink that was found from one source
pub sink_found : (ws : List Wire) (m s : ℕ) (sinks : List ℕ) (visits : List (Option Visit)) → length ws ≡ m →
    ((v : ℕ) → has (s ∷ []) v ≡ true → is_some (visit_at visits v) ≡ true) →
    ((u w : ℕ) → Linked ws (is_affinity ws) u w → is_some (visit_at visits u) ≡ true → is_some (visit_at visits w) ≡ true) →
    ((r : ℕ) → ((v : ℕ) → has (s ∷ []) v ≡ true → label ws (is_affinity ws) m v ≡ r) → OnlyLabel ws r visits) →
    find (λ t. is_some (visit_at visits t)) sinks ≡ first_sink ws (is_affinity ws) sinks s
sink_found ws m s sinks visits e each closed sound =
    same_sink ws sinks s visits (reached_one ws s visits (each s (own_source s)) closed
    (sound (label ws (is_affinity ws) (length ws) s) (λ v h. ap (label ws (is_affinity ws) m) (only_source s v h) ∙ ap (λ n. label ws (is_affinity ws) n s) (sym e))))

pub none_case : (o : Option ℕ) (P : Type 0) → is_some o ≡ false → IfNone o P → P
none_case None P e i = i
none_case (Some x) P e i = absurd (false≢true (sym e))
