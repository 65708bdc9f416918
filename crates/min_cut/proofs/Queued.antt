-- A search in breadth: a vertex is queued as it is visited.
use Rattle.std.proofs.Common.{◌≡◌, ℕ, suc, ◌+◌, ◌<◌, ◌≤◌, Bool, true, false, cond, List, [], ◌∷◌, length, get_or, set, ℤ, Option, Some, None, is_some, min, sym, refl, ap, ◌∙◌, subst, inl, inr, ◌⊎◌, arith, get_or-set_same, length-set, le_refl, eq-or-lt_of_le}
use Rattle.std.proofs.lemmas.List.{get_or-set_other}
use Rattle.std.proofs.lemmas.List.Sums.{sum_by-set}
use Rattle.std.proofs.lemmas.Bool.{cases_eq, false≢true}
use Rattle.graph_model.specs.Wires.{Wire}
use Rattle.graph_model.specs.Residual.{Residual}
use Rattle.graph_model.specs.Cuts.{Joins}
use Rattle.min_cut.specs.declared.search.Visit.{Visit}
use Rattle.min_cut.specs.Tree.{visit_at, visited, at_level, ArcOver, Leads, Took, TookNone, Grew, IsClosed}
use Rattle.min_cut.specs.Arcs.{HasArc, IsArcs}
use Rattle.min_cut.specs.Queue.{marked, IsQueue, Queues, IsShort}
use Rattle.min_cut.proofs.Pushing.{in_range}
use Rattle.min_cut.proofs.Levels.{visited_le, took_grew, grew_none, grew_then}

none_some : {A : Type 0} {a : A} → None ≡ Some a → ⊥
none_some e = cc

-- one more is visited
pub one_more : (visits : List (Option Visit)) (to : ℕ) (y : Visit) → to < length visits → visit_at visits to ≡ None → visited (set visits to (Some y)) ≡ visited visits + 1
one_more visits to y l fresh =
    let z : Option Visit = Some y in
    let c = sum_by-set (λ (v : Option Visit). cond (is_some v) 1 0) visits to z None l in
    let f = ap (λ (o : Option Visit). let n : ℕ = cond (is_some o) 1 0 in n) fresh in
    omega arith

-- so the queue has room for it
pub queue_room : (visits : List (Option Visit)) (queue : List ℕ) (tail to : ℕ) → IsQueue visits queue tail → to < length visits → visit_at visits to ≡ None → length queue ≡ length visits →
    tail < length queue
queue_room visits queue tail to q l fresh e =
    let y : Visit = record { level = 0; link = 0; width = 0 } in
    let c = one_more visits to y l fresh in
    let m = visited_le (set visits to (Some y)) in
    let s : length (set visits to (Some y)) ≡ length visits = length-set _ _ _ in
    let n = q.count in
    omega arith

pub queue_push : (visits : List (Option Visit)) (queue : List ℕ) (tail to : ℕ) (y : Visit) → IsQueue visits queue tail → to < length visits → visit_at visits to ≡ None →
    length queue ≡ length visits → y.level ≤ tail → IsQueue (set visits to (Some y)) (set queue tail to) (tail + 1)
queue_push visits queue tail to y q l fresh e low =
    let room = queue_room visits queue tail to q l fresh e in
    record {
      count = let c = one_more visits to y l fresh in let n = q.count in omega arith;
      seen = λ i b. elim (cases_eq i tail) [
        | inl h ↦
            let p : get_or (set queue tail to) i 0 ≡ to = ap (λ j. get_or (set queue tail to) j 0) h ∙ get_or-set_same queue tail to 0 room in
            (y, ap (visit_at (set visits to (Some y))) p ∙ get_or-set_same visits to (Some y) None l, omega arith)
        | inr d ↦
            let (v, at, low) = q.seen i (not_last i tail b d) in
            let p : get_or (set queue tail to) i 0 ≡ get_or queue i 0 = get_or-set_other queue tail i to 0 d in
            (v, ap (visit_at (set visits to (Some y))) p ∙ (get_or-set_other visits to (get_or queue i 0) (Some y) None (λ h. none_some (sym fresh ∙ (ap (visit_at visits) (sym h) ∙ at))) ∙ at), low)
      ];
      queued = λ v visit h. elim (cases_eq v to) [
        | inl p ↦ (tail, omega arith, get_or-set_same queue tail to 0 room ∙ sym p)
        | inr d ↦
            let (i, b, at) = q.queued v visit (sym (get_or-set_other visits to v (Some y) None d) ∙ h) in
            (i, omega arith, get_or-set_other queue tail i to 0 (below i tail b) ∙ at)
      ];
    }
  where
    not_last : (i t : ℕ) → i < t + 1 → (i ≡ t → ⊥) → i < t
    not_last i t l d = omega arith

    below : (i t : ℕ) → i < t → i ≡ t → ⊥
    below i t l e = omega arith

pub queue_none : (visits : List (Option Visit)) (queue : List ℕ) → ((v : ℕ) (visit : Visit) → visit_at visits v ≡ Some visit → ⊥) → visited visits ≡ 0 → IsQueue visits queue 0
queue_none visits queue none e = record { count = sym e; seen = λ i l. absurd (omega arith); queued = λ v visit h. absurd (none v visit h) }

-- a queue's vertices are visited, and their levels are low
pub queue_seen : (visits : List (Option Visit)) (queue : List ℕ) (tail i : ℕ) → IsQueue visits queue tail → i < tail → is_some (visit_at visits (get_or queue i 0)) ≡ true
queue_seen visits queue tail i q l = let (v, e, low) = q.seen i l in ap is_some e

pub queue_low : (visits : List (Option Visit)) (queue : List ℕ) (tail i level : ℕ) → IsQueue visits queue tail → i < tail → at_level (visit_at visits (get_or queue i 0)) level ≡ true → level < tail
queue_low visits queue tail i level q l h =
    let (v, e, low) = q.seen i l in
    let (w, f, at) = at_of (visit_at visits (get_or queue i 0)) level h in
    let s : v.level ≡ w.level = ap (λ (o : Visit). o.level) (some_same (sym e ∙ f)) in
    omega arith
  where
    some_same : {A : Type 0} {a b : A} → Some a ≡ Some b → a ≡ b
    some_same e = cc

    at_of : (o : Option Visit) (level : ℕ) → at_level o level ≡ true → (visit : Visit) × (o ≡ Some visit) × (visit.level ≡ level)
    at_of None level h = absurd (false≢true h)
    at_of (Some visit) level h = (visit, refl, let e : visit.level ≡ level = grind arith in e)

pub queue_short : (visits : List (Option Visit)) (queue : List ℕ) (tail : ℕ) → IsQueue visits queue tail → IsShort visits
queue_short visits queue tail q v visit e =
    let (i, l, at) = q.queued v visit e in
    let (w, f, low) = q.seen i l in
    let s : w.level ≡ visit.level = ap (λ (o : Visit). o.level) (some_same (sym f ∙ (ap (visit_at visits) at ∙ e))) in
    let m = visited_le visits in
    let n = q.count in
    omega arith
  where
    some_same : {A : Type 0} {a b : A} → Some a ≡ Some b → a ≡ b
    some_same e = cc

-- a vertex of the level was visited, and is visited still
pub at_kept : (old new : List (Option Visit)) (level v : ℕ) → ((u : ℕ) (visit : Visit) → visit_at old u ≡ Some visit → visit_at new u ≡ Some visit) →
    at_level (visit_at old v) level ≡ true → at_level (visit_at new v) level ≡ true
at_kept old new level v kept h = go (visit_at old v) refl h
  where
    go : (o : Option Visit) → visit_at old v ≡ o → at_level o level ≡ true → at_level (visit_at new v) level ≡ true
    go None e h = absurd (false≢true h)
    go (Some visit) e h = ap (λ o. at_level o level) (kept v visit e) ∙ h

pub some_kept : (old new : List (Option Visit)) (v : ℕ) → ((u : ℕ) (visit : Visit) → visit_at old u ≡ Some visit → visit_at new u ≡ Some visit) →
    is_some (visit_at old v) ≡ true → is_some (visit_at new v) ≡ true
some_kept old new v kept h = go (visit_at old v) refl h
  where
    go : (o : Option Visit) → visit_at old v ≡ o → is_some o ≡ true → is_some (visit_at new v) ≡ true
    go None e h = absurd (false≢true h)
    go (Some visit) e h = ap is_some (kept v visit e)

pub some_at : (visits : List (Option Visit)) (level v : ℕ) → at_level (visit_at visits v) level ≡ true → is_some (visit_at visits v) ≡ true
some_at visits level v h = go (visit_at visits v) h
  where
    go : (o : Option Visit) → at_level o level ≡ true → is_some o ≡ true
    go None h = absurd (false≢true h)
    go (Some visit) h = refl

pub queues_took : (ws : List Wire) (fs : List ℤ) (old new : List (Option Visit)) (queue : List ℕ) (tail level k from to room : ℕ) → to < length old →
    Took old new level k from to room → Leads ws fs k from to room → IsQueue old queue tail → length queue ≡ length old → level < tail →
    Queues ws fs old new queue (set queue tail to) tail (tail + 1) level
queues_took ws fs old new queue tail level k from to room l t leads q e low = record {
  grew = took_grew ws fs old new level k from to room l t leads;
  holds = rw t.set (queue_push old queue tail to (record { level = level + 1; link = k; width = min t.of.width room }) q l t.fresh e (omega arith));
  more = omega arith;
  kept = λ i b. get_or-set_other queue tail i to 0 (below i tail b);
}
  where
    below : (i t : ℕ) → i < t → i ≡ t → ⊥
    below i t l e = omega arith

pub queues_none : (ws : List Wire) (fs : List ℤ) (visits : List (Option Visit)) (queue : List ℕ) (tail level : ℕ) → IsQueue visits queue tail → Queues ws fs visits visits queue queue tail tail level
queues_none ws fs visits queue tail level q = record { grew = grew_none ws fs visits level; holds = q; more = le_refl tail; kept = λ i b. refl }

pub queues_then : (ws : List Wire) (fs : List ℤ) (old new newer : List (Option Visit)) (queue queued queuer : List ℕ) (before tail end level : ℕ) →
    Queues ws fs old new queue queued before tail level → Queues ws fs new newer queued queuer tail end level → Queues ws fs old newer queue queuer before end level
queues_then ws fs old new newer queue queued queuer before tail end level a b =
    let x = a.more in
    let y = b.more in
    record {
      grew = grew_then ws fs old new newer level a.grew b.grew;
      holds = b.holds;
      more = omega arith;
      kept = λ i l. b.kept i (omega arith) ∙ a.kept i l;
    }

-- what a link leads to is visited once it was tried
pub closed_took : (ws : List Wire) (fs : List ℤ) (old new : List (Option Visit)) (level k from to room w : ℕ) → to < length old → Took old new level k from to room →
    Grew ws fs old new level → (w ≡ from) ⊎ ((w ≡ to) × (0 < room)) → is_some (visit_at new w) ≡ true
closed_took ws fs old new level k from to room w l t g (inl e) = subst (λ v. is_some (visit_at new v) ≡ true) (sym e) (some_kept old new from g.kept (ap is_some t.there))
closed_took ws fs old new level k from to room w l t g (inr (e, p)) =
    let y : Visit = record { level = level + 1; link = k; width = min t.of.width room } in
    let h : visit_at new to ≡ Some y = rw t.set (get_or-set_same old to (Some y) None l) in
    subst (λ v. is_some (visit_at new v) ≡ true) (sym e) (ap is_some h)

pub closed_none : (old new : List (Option Visit)) (level from to room w : ℕ) → TookNone old new level from to room → at_level (visit_at old from) level ≡ true →
    (w ≡ from) ⊎ ((w ≡ to) × (0 < room)) → is_some (visit_at new w) ≡ true
closed_none old new level from to room w t at (inl e) = rw (t.same, e) (some_at old level from at)
closed_none old new level from to room w t at (inr (e, p)) = rw (t.same, e) (t.why p at)

-- what more can be sent to over a link is what it leads to
pub leads_over : (ws : List Wire) (fs : List ℤ) (k u w : ℕ) → ArcOver ws fs k u w → Joins ws k u w
leads_over ws fs k u w (inl (a, b, r)) = inl (a, b)
leads_over ws fs k u w (inr (b, a, r)) = inr (a, b)

-- a vertex of a level is one
pub from_below : (visits : List (Option Visit)) (level v : ℕ) → at_level (visit_at visits v) level ≡ true → v < length visits
from_below visits level v h = go (visit_at visits v) refl h
  where
    go : (o : Option Visit) → visit_at visits v ≡ o → at_level o level ≡ true → v < length visits
    go None e h = absurd (false≢true h)
    go (Some visit) e h = in_range visits v visit e

pub unvisited : (o : Option Visit) → is_some o ≡ false → o ≡ None
unvisited None e = refl
unvisited (Some visit) e = absurd (false≢true (sym e))

-- where none is visited the queue is empty
pub none_visited : (visits : List (Option Visit)) → ((v : ℕ) → v < length visits → visit_at visits v ≡ None) → visited visits ≡ 0
none_visited [] h = refl
none_visited (x ∷ xs) h =
    let e : x ≡ None = h 0 (omega arith) in
    let r = none_visited xs (λ v l. h (suc v) (omega arith)) in
    rw e r

pub all_none : (visits : List (Option Visit)) → ((v : ℕ) → v < length visits → visit_at visits v ≡ None) → (v : ℕ) (visit : Visit) → visit_at visits v ≡ Some visit → ⊥
all_none visits h v visit e = none_some (sym (h v (in_range visits v visit e)) ∙ e)

-- the vertices of the queue below `head` are no sinks, and what they lead to is visited
pub record Done (ws : List Wire) (fs : List ℤ) (marks : List Bool) (visits : List (Option Visit)) (queue : List ℕ) (head : ℕ) : Type 0 where
  pub each : (i : ℕ) → i < head → (marked marks (get_or queue i 0) ≡ false) × ((w : ℕ) → Residual ws fs (get_or queue i 0) w → is_some (visit_at visits w) ≡ true)

pub done_more : (n : ℕ) (ws : List Wire) (fs : List ℤ) (starts arcs : List ℕ) (marks : List Bool) (old new : List (Option Visit)) (queue newer : List ℕ) (head tail end level : ℕ) →
    IsArcs n ws starts arcs → head < tail → Queues ws fs old new queue newer tail end level → marked marks (get_or queue head 0) ≡ false →
    ((k w : ℕ) → HasArc starts arcs (get_or queue head 0) k → ArcOver ws fs k (get_or queue head 0) w → is_some (visit_at new w) ≡ true) →
    Done ws fs marks old queue head → Done ws fs marks new newer (head + 1)
done_more n ws fs starts arcs marks old new queue newer head tail end level sound below q plain closed done = record {
  each = λ i l. let b : i ≤ head = omega arith in elim (eq-or-lt_of_le b) [
    | inl e ↦ let p : get_or newer i 0 ≡ get_or queue head 0 = ap (λ j. get_or newer j 0) e ∙ q.kept head below in (
      ap (marked marks) p ∙ plain,
      λ w r. here w (subst (λ u. Residual ws fs u w) p r),
    )
    | inr s ↦ let p : get_or newer i 0 ≡ get_or queue i 0 = q.kept i (omega arith) in let d = done.each i s in (
      ap (marked marks) p ∙ d.0,
      λ w r. some_kept old new w q.grew.kept (d.1 w (subst (λ u. Residual ws fs u w) p r)),
    )
  ];
}
  where
    here : (w : ℕ) → Residual ws fs (get_or queue head 0) w → is_some (visit_at new w) ≡ true
    here w (k, l, inl a) = closed k w (subst (λ u. HasArc starts arcs u k) a.0 (sound.each k l).0) (inl a)
    here w (k, l, inr a) = closed k w (subst (λ u. HasArc starts arcs u k) a.0 (sound.each k l).1) (inr a)

-- at the end of the queue all is visited
pub done_all : (ws : List Wire) (fs : List ℤ) (marks : List Bool) (visits : List (Option Visit)) (queue : List ℕ) (head tail : ℕ) → IsQueue visits queue tail → tail ≤ head →
    Done ws fs marks visits queue head → IsClosed ws fs visits × ((v : ℕ) → marked marks v ≡ true → is_some (visit_at visits v) ≡ false)
done_all ws fs marks visits queue head tail q l done = (
  λ u w r s. closed u w r (visit_at visits u) refl s,
  λ v m. unseen v m (visit_at visits v) refl,
)
  where
    closed : (u w : ℕ) → Residual ws fs u w → (o : Option Visit) → visit_at visits u ≡ o → is_some o ≡ true → is_some (visit_at visits w) ≡ true
    closed u w r None e h = absurd (false≢true h)
    closed u w r (Some visit) e h = let (i, b, p) = q.queued u visit e in (done.each i (omega arith)).1 w (subst (λ x. Residual ws fs x w) (sym p) r)

    unseen : (v : ℕ) → marked marks v ≡ true → (o : Option Visit) → visit_at visits v ≡ o → is_some (visit_at visits v) ≡ false
    unseen v m None e = ap is_some e
    unseen v m (Some visit) e = let (i, b, p) = q.queued v visit e in absurd (false≢true (sym (done.each i (omega arith)).0 ∙ (ap (marked marks) p ∙ m)))

pub queue_below : (visits : List (Option Visit)) (queue : List ℕ) (tail i : ℕ) → IsQueue visits queue tail → i < tail → get_or queue i 0 < length visits
queue_below visits queue tail i q l = let (v, e, low) = q.seen i l in in_range visits (get_or queue i 0) v e
