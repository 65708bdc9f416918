use Rattle.std.proofs.Common.{◌≡◌, ◌∙◌, ap, arith, rules, Vec, Global}
use Rattle.op_model.specs.declared.entry.Carry.{Carry}
use Rattle.graph_model.specs.Flows.{amount}
use Rattle.op_model.specs.Cuts.{link_of}
use Rattle.split_net.specs.Parts.{told_carries, told_carry}
use Rattle.split_net.proofs.Carried.{next_some, next_none, flow_whole}
use Rattle.split_net.proofs.telling.flow_of.Goals.{in-Some+in_ok-push, in_default}
use Rattle.split_net.proofs.telling.flow_of.Goals as goal

pub loop-at-preserved : goal.loop-at-preserved
loop-at-preserved c =
    let part = c.args.part.now in
    let fs = c.args.amounts.now in
    let is : told_carry c.carry_of.result ≡ told_carries (link_of c.index-part-at.result) (amount c.args.amounts.now c.loop-at.at) = search rules in
    record {
      told = elim c.match-carry_of.branch [
        | in-Some+in_ok-push w ↦ ap (λ (v : Vec Carry Global). v.items) w.list-is ∙ (w.in_ok-push.ensures.items
            ∙ next_some part fs c.loop-at.at c.index-part-at.result c.loop-at.list.items c.loop-at-test.true c.index-part-at.is c.loop-at.invariant.told w.in-Some.carry c.carry_of.result w.in-Some.is is)
        | in_default w ↦ ap (λ (v : Vec Carry Global). v.items) w.list-is ∙ next_none part fs c.loop-at.at c.index-part-at.result c.loop-at.list.items c.loop-at-test.true c.index-part-at.is c.loop-at.invariant.told c.carry_of.result w.in_default.is is
      ];
      within = omega (arith, c.loop-at-test.true);
    }

pub returns : goal.returns
returns c = flow_whole c.args.part.now c.args.amounts.now c.loop-at.at c.loop-at.list.items c.loop-at.invariant.within (omega (arith, c.loop-at-test.false)) c.loop-at.invariant.told
