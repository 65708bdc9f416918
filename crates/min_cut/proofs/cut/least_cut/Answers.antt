use Rattle.std.proofs.Common.{◌≡◌, ◌∙◌, sym, ap, subst, map, length, is_some, List, ℤ, Option, arith}
use Rattle.graph_model.specs.Cuts.{chosen, crosses}
use Rattle.min_cut.specs.declared.search.Visit.{Visit}
use Rattle.flow_net.specs.Net.{wire_of}
use Rattle.flow_net.specs.Verdict.{Accepts}
use Rattle.min_cut.specs.Tree.{visit_at}
use Rattle.min_cut.proofs.Assembled.{IsAnswer, answer_of, separable, front}
use Rattle.min_cut.proofs.cut.least_cut.Goals as goal

pub greatest_flow-requires-clause-separable : goal.greatest_flow-requires-clause-separable
greatest_flow-requires-clause-separable c = separable (map wire_of c.links-links.result.now) c.args.sources.now c.args.sinks.now (sym c.glue_fault.ensures ∙ c.in_default-glue_fault.is)

whole : (c : goal.After-drop-arcs-4) → IsAnswer c.args.net.now c.args.sources.now c.args.sinks.now c.in-Ok-edge_links.chosen.items c.in-Ok-greatest_flow.total c.greatest_flow.new.amounts
whole c =
    let size : length c.greatest_flow.new.visits ≡ c.args.net.now.size =
    omega (arith, c.greatest_flow.auto.visits, c.as_mut_slice-4.ensures.len, c.in-Ok-vec-2.ensures.len, c.size-size.ensures.size) in
    answer_of c.args.net.now c.args.sources.now c.args.sinks.now c.links-links.result.now _ _ c.greatest_flow.new.amounts (λ v. is_some (visit_at c.greatest_flow.new.visits v)) c.in-Ok-edge_links.chosen.items
    c.links-links.ensures.links size c.links-links.ensures.sound c.in-Ok-greatest_flow.ensures.flow c.in-Ok-greatest_flow.ensures.last c.in-Ok-greatest_flow.ensures.value
    (c.in-Ok-edge_links.ensures ∙ ap (λ (vs : List (Option Visit)). chosen (crosses (map wire_of c.links-links.result.now) (λ v. is_some (visit_at vs v))) (length c.links-links.result.now))
    (c.as_slice-4.ensures.value ∙ front c.greatest_flow.new.visits _ c.in-Ok-vec-2.visits.len (omega (arith, c.greatest_flow.auto.visits, c.as_mut_slice-4.ensures.len))))

pub returns-clause-cut : goal.returns-clause-cut
returns-clause-cut c = (whole c).cut_is

pub returns-clause-least : goal.returns-clause-least
returns-clause-least c = (whole c).least

pub returns-clause-total : goal.returns-clause-total
returns-clause-total c = (whole c).total_is

pub returns-clause-accepts : goal.returns-clause-accepts
returns-clause-accepts c =
    let e : c.in-Ok-vec-3.amounts.len ≡ length c.greatest_flow.new.amounts = omega (arith, c.greatest_flow.auto.amounts, c.as_mut_slice-3.ensures.len) in
    subst (λ (fs : List ℤ). Accepts c.args.net.now c.args.sources.now c.args.sinks.now c.in-Ok-edge_links.chosen.items fs) (sym (front c.greatest_flow.new.amounts _ c.in-Ok-vec-3.amounts.len e)) (whole c).accepts

pub returns-clause-ascending : goal.returns-clause-ascending
returns-clause-ascending c = (whole c).ascending

pub returns-clause-below : goal.returns-clause-below
returns-clause-below c = (whole c).below
