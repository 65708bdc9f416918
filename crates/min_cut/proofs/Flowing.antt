-- A flow and what it has sent.
use Rattle.std.proofs.Common.{◌≡◌, ℕ, ◌+◌, ◌-◌, ◌*◌, ◌<◌, ◌≤◌, Bool, true, false, cond, List, length, ℤ, pos, Option, Some, None, is_some, nat_eq, sym, refl, ap, ◌∙◌, inl, inr, arith, ne_eqb, zero-le}
use Rattle.std.proofs.lemmas.Int.{ints}
use Rattle.std.proofs.lemmas.Bool.{cases_Bool, false≢true}
use Rattle.graph_model.specs.Walks.{ReachedFrom}
use Rattle.graph_model.specs.Wires.{Wire, wire, EndsBelow}
use Rattle.graph_model.specs.Lists.{has}
use Rattle.graph_model.specs.Cuts.{Separates, weight, is_affinity}
use Rattle.graph_model.specs.Flows.{amount, Fitting, IsFlow, leaving, entering, value, carried_out, carried_in, run_out, run_in}
use Rattle.graph_model.specs.Residual.{Residual, IsLast}
use Rattle.graph_model.proofs.Totals.{total_none}
use Rattle.graph_model.proofs.Duality.{duality}
use Rattle.min_cut.specs.declared.search.Visit.{Visit}
use Rattle.min_cut.specs.Tree.{visit_at, AllFit, Pushed, HasWidth, IsTree, IsClosed, level_of, level_in}
use Rattle.min_cut.specs.Moves.{Moves}
use Rattle.min_cut.specs.Queue.{marked}
use Rattle.min_cut.specs.Flowing.{Flowing, Apart}

-- an amount of 0 fits where rooms are numbers
fit_zero : (room : Option ℕ) (z : ℤ) → z ≡ pos 0 → Fitting room z
fit_zero None z e = tt
fit_zero (Some r) z e = (rw e zero-le, rw e zero-le)

pub flowing_zero : (n : ℕ) (ws : List Wire) (sources : List ℕ) (sink : ℕ → Bool) (fs : List ℤ) → ((k : ℕ) → amount fs k ≡ pos 0) → Flowing n ws sources sink fs 0
flowing_zero n ws sources sink fs z = record {
  fit = record { fits = λ k l. fit_zero (wire ws k).room (amount fs k) (z k); small = λ k l. (rw z zero-le, rw z zero-le) };
  balanced = λ v l a b. total_none (run_in ws fs v) (length ws) (λ k l. rw z (both (nat_eq (wire ws k).a v) (nat_eq (wire ws k).b v))) ∙ sym (total_none (run_out ws fs v) (length ws) (λ k l. rw z (both (nat_eq (wire ws k).a v) (nat_eq (wire ws k).b v))));
  value = let a : leaving ws fs (has sources) ≡ 0 = total_none (carried_out ws fs (has sources)) (length ws) (λ k l. rw z (any (has sources (wire ws k).a) (has sources (wire ws k).b))) in
      let b : entering ws fs (has sources) ≡ 0 = total_none (carried_in ws fs (has sources)) (length ws) (λ k l. rw z (any (has sources (wire ws k).a) (has sources (wire ws k).b))) in omega arith;
}
  where
    both : (p q : Bool) → ◌≡◌ {A = ℕ} (cond p 0 0 + cond q 0 0) 0
    both true true = refl
    both true false = refl
    both false true = refl
    both false false = refl

    any : (p q : Bool) → ◌≡◌ {A = ℕ} (cond p (cond q 0 0) (cond q 0 0)) 0
    any true true = refl
    any true false = refl
    any false true = refl
    any false false = refl

-- it is a flow between the marks
pub flow_of : (n : ℕ) (ws : List Wire) (sources sinks : List ℕ) (sink : ℕ → Bool) (fs : List ℤ) (sent : ℕ) → ((v : ℕ) → sink v ≡ has sinks v) →
    Flowing n ws sources sink fs sent → IsFlow n ws sources sinks fs
flow_of n ws sources sinks sink fs sent marks f = record { fits = f.fit.fits; balanced = λ v l a b. f.balanced v l a (marks v ∙ b) }

pub apart_of : (ws : List Wire) (sources sinks : List ℕ) → ((v : ℕ) → has sources v ≡ true → has sinks v ≡ false) → Separates ws sources sinks (is_affinity ws) → Apart ws sources (has sinks)
apart_of ws sources sinks sides sep = record { sinks = sinks; marks = λ v. refl; sides = sides; separable = sep }

pub marks_apart : (ws : List Wire) (sources sinks : List ℕ) (marks : List Bool) → ((v : ℕ) → marked marks v ≡ has sinks v) → ((v : ℕ) → has sources v ≡ true → has sinks v ≡ false) →
    Separates ws sources sinks (is_affinity ws) → Apart ws sources (marked marks)
marks_apart ws sources sinks marks e sides sep = record { sinks = sinks; marks = e; sides = λ v h. e v ∙ sides v h; separable = sep }

-- it sends no more than the affinities together weigh
pub sent_below : (n : ℕ) (ws : List Wire) (sources : List ℕ) (sink : ℕ → Bool) (fs : List ℤ) (sent : ℕ) → Flowing n ws sources sink fs sent → EndsBelow n ws →
    Apart ws sources sink → sent ≤ weight ws (is_affinity ws)
sent_below n ws sources sink fs sent f ends apart =
    let v = f.value in
    let d = duality n ws sources apart.sinks fs ends (flow_of n ws sources apart.sinks sink fs sent apart.marks f) (is_affinity ws) apart.separable in
    omega arith

-- what goes from a source to a sink keeps the balance
module _ (n : ℕ) (ws : List Wire) (sources : List ℕ) (sink : ℕ → Bool) (old new : List ℤ) (sent width s t : ℕ)
    (f : Flowing n ws sources sink old sent) (mv : Moves ws old new width s t) (fit : AllFit ws new (sent + width))
    (src : has sources s ≡ true) (snk : sink t ≡ true) (apart : Apart ws sources sink) where
  pub flowing_on : Flowing n ws sources sink new (sent + width)
  flowing_on = record {
    fit = fit;
    balanced = λ v l a b.
        let m = mv.vertex v in
        let e = f.balanced v l a b in
        let x : cond (nat_eq t v) width 0 ≡ 0 = rw (ne_eqb t v (λ q. false≢true (sym b ∙ (ap sink (sym q) ∙ snk)))) refl in
        let y : cond (nat_eq s v) width 0 ≡ 0 = rw (ne_eqb s v (λ q. false≢true (sym a ∙ (ap (has sources) (sym q) ∙ src)))) refl in
        omega arith;
    value =
        let m = mv.over (has sources) in
        let e = f.value in
        let x : cond (has sources t) width 0 ≡ 0 = rw (not_source t snk) refl in
        let y : cond (has sources s) width 0 ≡ width = rw src refl in
        omega arith;
  }
    where
      not_source : (t : ℕ) → sink t ≡ true → has sources t ≡ false
      not_source t k = elim (cases_Bool (has sources t)) [ inl a ↦ absurd (false≢true (sym (apart.sides t a) ∙ k)) | inr b ↦ b ]

  pub flowing_below : EndsBelow n ws → sent + width ≤ weight ws (is_affinity ws)
  flowing_below ends = sent_below n ws sources sink new (sent + width) flowing_on ends apart

pub value_is : (ws : List Wire) (fs : List ℤ) (sources : List ℕ) (sent : ℕ) → leaving ws fs (has sources) ≡ entering ws fs (has sources) + sent → value ws fs sources ≡ pos sent
value_is ws fs sources sent e = omega (arith, ints)

pub last_of : (ws : List Wire) (sources sinks : List ℕ) (fs : List ℤ) (visits : List (Option Visit)) → IsTree ws sources fs visits → IsClosed ws fs visits →
    ((v : ℕ) → has sinks v ≡ true → is_some (visit_at visits v) ≡ false) → IsLast ws sources sinks fs (λ v. is_some (visit_at visits v))
last_of ws sources sinks fs visits tree closed none = record {
  holds_sources = tree.starts;
  no_sink = none;
  closed = closed;
  reached = λ v h. go v (visit_at visits v) refl h;
}
  where
    go : (v : ℕ) (o : Option Visit) → visit_at visits v ≡ o → is_some (visit_at visits v) ≡ true → ReachedFrom (Residual ws fs) sources v
    go v (Some visit) e h = (tree.each v visit e).reached
    go v None e h = absurd (false≢true (sym (ap is_some e) ∙ h))

pub measure_falls : (most sent width : ℕ) (going : Bool) → 0 < width → sent + width ≤ most → (most - (sent + width)) * 2 + cond going 1 0 < (most - sent) * 2 + cond going 1 0
measure_falls most sent width going p l = omega arith

pub measure_ends : (most sent : ℕ) → (most - sent) * 2 + 0 < (most - sent) * 2 + 1
measure_ends most sent = omega arith

-- what a tree says of a visited sink
pub width_fits : (ws : List Wire) (sources : List ℕ) (fs : List ℤ) (visits : List (Option Visit)) (t width : ℕ) → IsTree ws sources fs visits →
    (visit : Visit) × (visit_at visits t ≡ Some visit) × (width ≡ visit.width) → (0 < width) × (width ≤ 8589934592)
width_fits ws sources fs visits t width tree (visit, e, w) = let i = tree.each t visit e in let a = i.wide in let b = i.narrow in (omega arith, omega arith)

pub starts_at_source : (ws : List Wire) (sources : List ℕ) (fs : List ℤ) (visits : List (Option Visit)) (v : ℕ) → IsTree ws sources fs visits →
    (visit : Visit) × (visit_at visits v ≡ Some visit) → level_of visits v ≡ 0 → has sources v ≡ true
starts_at_source ws sources fs visits v tree (visit, e) z = (tree.each v visit e).first (sym (ap level_in e) ∙ z)

-- after a walk of a tree was augmented
pub augmented : (n : ℕ) (ws : List Wire) (sources : List ℕ) (sink : ℕ → Bool) (fs gs : List ℤ) (sent width s t : ℕ) (visits : List (Option Visit)) →
    Flowing n ws sources sink fs sent → Apart ws sources sink → EndsBelow n ws → IsTree ws sources fs visits →
    Pushed ws (level_of visits) fs gs width sent s t → HasWidth visits width s → level_of visits s ≡ 0 → sink t ≡ true →
    Flowing n ws sources sink gs (sent + width) × (sent + width ≤ weight ws (is_affinity ws))
augmented n ws sources sink fs gs sent width s t visits f apart ends tree p (visit, e, w) z snk =
    let src = starts_at_source ws sources fs visits s tree (visit, e) z in (
      flowing_on n ws sources sink fs gs sent width s t f p.moves p.fits src snk apart,
      flowing_below n ws sources sink fs gs sent width s t f p.moves p.fits src snk apart ends,
    )
