use Rattle.std.proofs.Common.{◌∙◌, ap, refl, Err}
use Rattle.flow_net.specs.declared.CutFault.{CutFault}
use Rattle.flow_net.proofs.Faults.{fault_glue, fault_over, fault_unbalanced, fault_open, fault_sums}
use Rattle.flow_net.proofs.check.verdict.Goals as goal

pub returns-in-Some : goal.returns-in-Some
returns-in-Some c =
    fault_glue c.args.net.now _ _ c.args.sources.now c.args.sinks.now c.args.chosen.now c.args.amounts.now refl c.links-links.ensures.links
    _ c.first_glue.ensures _ c.in-Some.is

pub returns-in-Some-first_over : goal.returns-in-Some-first_over
returns-in-Some-first_over c =
    ap (λ (f : CutFault). Err f) c.over_room.ensures
    ∙ fault_over c.args.net.now _ _ c.args.sources.now c.args.sinks.now c.args.chosen.now c.args.amounts.now refl c.links-links.ensures.links
    _ c.first_glue.ensures c.in_default.is _ c.first_over.ensures.first _ c.in-Some-first_over.is

pub returns-in-Some-first_unbalanced : goal.returns-in-Some-first_unbalanced
returns-in-Some-first_unbalanced c =
    ap (λ (f : CutFault). Err f) c.unbalanced.ensures
    ∙ fault_unbalanced c.args.net.now _ _ c.args.sources.now c.args.sinks.now c.args.chosen.now c.args.amounts.now c.size.ensures.size c.links-links.ensures.links
    _ c.first_glue.ensures c.in_default.is _ c.first_over.ensures.first c.in_default-first_over.is
    _ c.first_unbalanced.ensures _ c.in-Some-first_unbalanced.is

pub returns-in-Some-first_joined : goal.returns-in-Some-first_joined
returns-in-Some-first_joined c =
    fault_open c.args.net.now _ _ c.args.sources.now c.args.sinks.now c.args.chosen.now c.args.amounts.now c.size.ensures.size c.links-links.ensures.links
    _ c.first_glue.ensures c.in_default.is _ c.first_over.ensures.first c.in_default-first_over.is
    _ c.first_unbalanced.ensures c.in_default-first_unbalanced.is _ c.first_joined.ensures _ _ c.in-Some-first_joined.is

pub returns : goal.returns
returns c =
    fault_sums c.args.net.now _ _ c.args.sources.now c.args.sinks.now c.args.chosen.now c.args.amounts.now c.size.ensures.size c.links-links.ensures.links
    _ c.first_glue.ensures c.in_default.is _ c.first_over.ensures.first c.in_default-first_over.is
    _ c.first_unbalanced.ensures c.in_default-first_unbalanced.is _ c.first_joined.ensures _ c.in_default-first_joined.is c.sums_verdict.ensures
