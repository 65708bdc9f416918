-- There is no fault just where the cut separates and the flow is one that carries its weight.
use Rattle.std.proofs.Common.{◌≡◌, ℕ, Bool, true, false, cond, not, ◌&&◌, ◌||◌, List, length, ℤ, pos, Option, Some, None, IsSome, is_none, nat_eq, Result, is_ok, IsOk, sym, refl, ap, ◌∙◌, inl, inr, ◌↔◌, eq-eqb, eqb-true, ltb-false, le-ltb}
use Rattle.graph_model.proofs.FirstOpen.{some_none, none_apart, apart_none}
use Rattle.std.specs.Ordering.{int_eq}
use Rattle.std.proofs.lemmas.Bool.{cases_Bool, false≢true, or_parts, or_from}
use Rattle.std.proofs.lemmas.Bool.Decides.{Decides-int_eq}
use Rattle.flow_net.specs.declared.CutFault.{CutFault}
use Rattle.flow_net.specs.declared.CutFault.TheVariants.{Unequal}
use Rattle.graph_model.specs.Wires.{wire}
use Rattle.graph_model.specs.Lists.{has}
use Rattle.graph_model.specs.Cuts.{weight, first_open}
use Rattle.graph_model.specs.Flows.{Fitting, amount, into, out_of, value}
use Rattle.flow_net.specs.Net.{NetView, wires, first_below}
use Rattle.flow_net.proofs.Searches.{below_none_at, below_none_from}
use Rattle.flow_net.specs.Verdict.{cuts_glue, over, over_room, unbalanced, unless, result_of, first_fault, Accepts}

unless_none : {A : Type 0} (o : Option A) (f : A → CutFault) (next : Option CutFault) → unless o f next ≡ None → (o ≡ None) × (next ≡ None)
unless_none None f next e = (refl, e)
unless_none (Some a) f next e = absurd (some_none e)

no_glue_at : (b : Bool) (room : Option ℕ) → (b && is_none room) ≡ false → b ≡ true → IsSome room
no_glue_at true (Some r) e h = refl
no_glue_at true None e h = absurd (false≢true (sym e))
no_glue_at false room e h = absurd (false≢true h)

no_glue_from : (b : Bool) (room : Option ℕ) → (b ≡ true → IsSome room) → (b && is_none room) ≡ false
no_glue_from false room h = refl
no_glue_from true (Some r) h = refl
no_glue_from true None h = absurd (false≢true (h refl))

fit_at : (room : Option ℕ) (z : ℤ) → over room z ≡ false → Fitting room z
fit_at None z e = tt
fit_at (Some r) z e = let p = or_parts _ _ e in (ltb-false _ _ p.0, ltb-false _ _ p.1)

fit_from : (room : Option ℕ) (z : ℤ) → Fitting room z → over room z ≡ false
fit_from None z f = refl
fit_from (Some r) z f = or_from _ _ (le-ltb _ _ f.0) (le-ltb _ _ f.1)

balance_at : (s t e : Bool) → (not (s || t) && not e) ≡ false → s ≡ false → t ≡ false → e ≡ true
balance_at false false true h p q = refl
balance_at false false false h p q = absurd (false≢true (sym h))
balance_at true t e h p q = absurd (false≢true (sym p))
balance_at false true e h p q = absurd (false≢true (sym q))

balance_from : (s t e : Bool) → (s ≡ false → t ≡ false → e ≡ true) → (not (s || t) && not e) ≡ false
balance_from true t e h = refl
balance_from false true e h = refl
balance_from false false e h = rw (h refl refl) refl

equal_at : (v : ℤ) (w : ℕ) → cond (int_eq v (pos w)) None (Some (Unequal v w)) ≡ None → v ≡ pos w
equal_at v w e = elim (cases_Bool (int_eq v (pos w))) [
  | inl t ↦ (Decides-int_eq v (pos w)).0 t
  | inr f ↦ absurd (some_none (rw f at e))
]

module _ (net : NetView) (sources sinks cut : List ℕ) (fs : List ℤ) where
  accepts_from : first_fault net sources sinks cut fs ≡ None → Accepts net sources sinks cut fs
  unfolding first_fault
  accepts_from e =
      let ws = wires net in
      let a = unless_none (first_below (cuts_glue ws cut) (length ws)) _ _ e in
      let b = unless_none (first_below (over_room ws fs) (length ws)) _ _ a.1 in
      let c = unless_none (first_below (unbalanced ws sources sinks fs) net.size) _ _ b.1 in
      let d = unless_none (first_open ws (has cut) sources sinks) _ _ c.1 in
      record {
        separates = record {
          no_glue = λ k l t. no_glue_at (has cut k) (wire ws k).room (below_none_at (cuts_glue ws cut) (length ws) a.0 k l) t;
          apart = none_apart ws (has cut) sources sinks d.0;
        };
        flow = record {
          fits = λ k l. fit_at (wire ws k).room (amount fs k) (below_none_at (over_room ws fs) (length ws) b.0 k l);
          balanced = λ v l p q. eqb-true _ _ (balance_at (has sources v) (has sinks v) (nat_eq (into ws fs v) (out_of ws fs v))
              (below_none_at (unbalanced ws sources sinks fs) net.size c.0 v l) p q);
        };
        equal = equal_at (value ws fs sources) (weight ws (has cut)) d.1;
      }

  from_accepts : Accepts net sources sinks cut fs → first_fault net sources sinks cut fs ≡ None
  unfolding first_fault
  from_accepts h =
      let ws = wires net in
      rw (
        below_none_from (cuts_glue ws cut) (length ws) (λ k l. no_glue_from (has cut k) (wire ws k).room (h.separates.no_glue k l)),
        below_none_from (over_room ws fs) (length ws) (λ k l. fit_from (wire ws k).room (amount fs k) (h.flow.fits k l)),
        below_none_from (unbalanced ws sources sinks fs) net.size (λ v l. balance_from (has sources v) (has sinks v) (nat_eq (into ws fs v) (out_of ws fs v))
            (λ p q. eq-eqb _ _ (h.flow.balanced v l p q))),
        apart_none ws (has cut) sources sinks h.separates.apart,
        (Decides-int_eq (value ws fs sources) (pos (weight ws (has cut)))).1 h.equal,
      ) refl

  ok_none : (o : Option CutFault) → IsOk (result_of o) → o ≡ None
  ok_none None t = refl
  ok_none (Some f) t = absurd (false≢true t)

  pub accepted : (r : Result (Unit {0}) CutFault) → r ≡ result_of (first_fault net sources sinks cut fs) → IsOk r ↔ Accepts net sources sinks cut fs
  accepted r e = (
    λ t. accepts_from (ok_none (first_fault net sources sinks cut fs) (ap is_ok (sym e) ∙ t)),
    λ a. ap is_ok e ∙ ap (λ o. is_ok (result_of o)) (from_accepts a),
  )
