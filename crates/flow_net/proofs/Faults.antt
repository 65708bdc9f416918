-- The first fault, told by the answers of the searches one after the other.
use Rattle.std.proofs.Common.{◌≡◌, ℕ, List, length, map, ℤ, pos, Option, Some, None, Result, Err, refl, ap₂, ◌∙◌}
use Rattle.std.proofs.lemmas.List.{length-map}
use Rattle.flow_net.specs.declared.CutFault.{CutFault}
use Rattle.flow_net.specs.declared.CutFault.TheVariants.{CutsGlue, OverRoom, Unbalanced, Open}
use Rattle.flow_net.specs.declared.Link.{Link}
use Rattle.graph_model.specs.Lists.{has}
use Rattle.graph_model.specs.Cuts.{first_open}
use Rattle.graph_model.specs.Flows.{amount, into, out_of}
use Rattle.flow_net.specs.Net.{NetView, wire_of, first_below}
use Rattle.flow_net.specs.Verdict.{cuts_glue, over_room, unbalanced, sums_fault, result_of, first_fault}

module _ (net : NetView) (n : ℕ) (links : List Link) (sources sinks cut : List ℕ) (fs : List ℤ) (size : n ≡ net.size) (same : links ≡ net.links)
    (glue : Option ℕ) (glue_is : glue ≡ first_below (cuts_glue (map wire_of links) cut) (length links)) where
  same_net : result_of (first_fault (record { size = n; links = links }) sources sinks cut fs) ≡ result_of (first_fault net sources sinks cut fs)
  same_net = ap₂ (λ m ls. result_of (first_fault (record { size = m; links = ls }) sources sinks cut fs)) size same

  at_glue : (k : ℕ) → glue ≡ Some k → Err (CutsGlue k) ≡ result_of (first_fault (record { size = n; links = links }) sources sinks cut fs)
  unfolding first_fault
  at_glue k is = rw (length-map, ← glue_is, is) refl

  pub fault_glue : (k : ℕ) → glue ≡ Some k → Err (CutsGlue k) ≡ result_of (first_fault net sources sinks cut fs)
  fault_glue k is = at_glue k is ∙ same_net

  module _ (no_glue : glue ≡ None) (over : Option ℕ) (over_is : over ≡ first_below (over_room (map wire_of links) fs) (length links)) where
    at_over : (k : ℕ) → over ≡ Some k → Err (OverRoom k (amount fs k)) ≡ result_of (first_fault (record { size = n; links = links }) sources sinks cut fs)
    unfolding first_fault
    at_over k is = rw (length-map, ← glue_is, no_glue, ← over_is, is) refl

    pub fault_over : (k : ℕ) → over ≡ Some k → Err (OverRoom k (amount fs k)) ≡ result_of (first_fault net sources sinks cut fs)
    fault_over k is = at_over k is ∙ same_net

    module _ (none_over : over ≡ None) (vertex : Option ℕ) (vertex_is : vertex ≡ first_below (unbalanced (map wire_of links) sources sinks fs) n) where
      at_unbalanced : (v : ℕ) → vertex ≡ Some v
          → Err (Unbalanced v (pos (into (map wire_of links) fs v)) (pos (out_of (map wire_of links) fs v)))
          ≡ result_of (first_fault (record { size = n; links = links }) sources sinks cut fs)
      unfolding first_fault
      at_unbalanced v is = rw (length-map, ← glue_is, no_glue, ← over_is, none_over, ← vertex_is, is) refl

      pub fault_unbalanced : (v : ℕ) → vertex ≡ Some v
          → Err (Unbalanced v (pos (into (map wire_of links) fs v)) (pos (out_of (map wire_of links) fs v))) ≡ result_of (first_fault net sources sinks cut fs)
      fault_unbalanced v is = at_unbalanced v is ∙ same_net

      module _ (balanced : vertex ≡ None) (marks : Option (ℕ × ℕ)) (marks_are : marks ≡ first_open (map wire_of links) (has cut) sources sinks) where
        at_open : (s t : ℕ) → marks ≡ Some (s, t) → Err (Open s t) ≡ result_of (first_fault (record { size = n; links = links }) sources sinks cut fs)
        unfolding first_fault
        at_open s t is = rw (← marks_are, is, length-map, ← glue_is, no_glue, ← over_is, none_over, ← vertex_is, balanced) refl

        pub fault_open : (s t : ℕ) → marks ≡ Some (s, t) → Err (Open s t) ≡ result_of (first_fault net sources sinks cut fs)
        fault_open s t is = at_open s t is ∙ same_net

        at_sums : marks ≡ None → result_of (sums_fault (map wire_of links) sources cut fs) ≡ result_of (first_fault (record { size = n; links = links }) sources sinks cut fs)
        unfolding first_fault
        at_sums none = rw (← marks_are, none, length-map, ← glue_is, no_glue, ← over_is, none_over, ← vertex_is, balanced) refl

        pub fault_sums : (r : Result (Unit {0}) CutFault) → marks ≡ None → r ≡ result_of (sums_fault (map wire_of links) sources cut fs)
            → r ≡ result_of (first_fault net sources sinks cut fs)
        fault_sums r none is = is ∙ at_sums none ∙ same_net
