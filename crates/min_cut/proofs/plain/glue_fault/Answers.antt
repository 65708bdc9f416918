use Rattle.std.proofs.Common.{◌≡◌, subst, sym, ap, ◌∙◌, List, ℕ, length, map}
use Rattle.std.proofs.lemmas.List.{length-map}
use Rattle.flow_net.specs.declared.Link.{Link}
use Rattle.flow_net.specs.Net.{IsAscending, wire_of}
use Rattle.graph_model.specs.Lists.{has}
use Rattle.graph_model.specs.Cuts.{chosen, is_affinity, first_open}
use Rattle.graph_model.proofs.Computed.{chosen_at}
use Rattle.graph_model.proofs.FirstOpen.{open_agree}
use Rattle.min_cut.specs.Glue.{glued_by}
use Rattle.min_cut.proofs.Assembled.{chosen_ascending}
use Rattle.min_cut.proofs.plain.glue_fault.Goals as goal

pub first_joined-requires-clause-ascending : goal.first_joined-requires-clause-ascending
first_joined-requires-clause-ascending c =
    subst (λ (xs : List ℕ). IsAscending xs) (sym c.requires.affinity) (chosen_ascending (is_affinity (map wire_of c.args.links.now)) (length c.args.links.now))

-- the list of the affinities is the set of them
same_first : (ls : List Link) (affinity sources sinks : List ℕ) → affinity ≡ chosen (is_affinity (map wire_of ls)) (length ls)
    → first_open (map wire_of ls) (has affinity) sources sinks ≡ first_open (map wire_of ls) (is_affinity (map wire_of ls)) sources sinks
same_first ls affinity sources sinks e =
    open_agree (map wire_of ls) (has affinity) (is_affinity (map wire_of ls)) sources sinks
    (λ k l. ap (λ xs. has xs k) e ∙ chosen_at (is_affinity (map wire_of ls)) (length ls) k (rw length-map at l))

pub returns-in-Some : goal.returns-in-Some
returns-in-Some c = ap glued_by (sym c.in-Some.is ∙ (c.first_joined.ensures ∙ same_first c.args.links.now c.args.affinity.now c.args.sources.now c.args.sinks.now c.requires.affinity))

pub returns-in-None : goal.returns-in-None
returns-in-None c = ap glued_by (sym c.in-None.is ∙ (c.first_joined.ensures ∙ same_first c.args.links.now c.args.affinity.now c.args.sources.now c.args.sinks.now c.requires.affinity))
