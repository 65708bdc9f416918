use Rattle.std.proofs.Common.{◌∙◌, ◌++◌, append-nil, map, sym, ap, subst}
use Rattle.std.proofs.lemmas.List.{take_all}
use Rattle.std.proofs.lemmas.List.Elements.{All-from_recursion}
use Rattle.op_model.specs.declared.entry.Changed.{Changed}
use Rattle.op_model.specs.Valid.{IsSupervoxel}
use Rattle.united_layers.specs.Jointed.{pair_joint}
use Rattle.united_layers.proofs.Gathering.{map_more}
use Rattle.united_layers.proofs.reading.put_pairs.Goals as goal

pub loop-change-init : goal.loop-change-init
loop-change-init c = sym (append-nil c.args.list.now.items)

pub pair_joint-requires : goal.pair_joint-requires
pair_joint-requires c =
    let d = c.args.dataset.now in
    let P = λ (x : Changed). IsSupervoxel d x.pair.a × IsSupervoxel d x.pair.b in
    record { ends = subst P (sym c.change-item.is) (All-from_recursion P c.args.changed.now c.requires.ends c.loop-change.change-index c.change-item.result c.loop-change-test.true) }

pub loop-change-preserved : goal.loop-change-preserved
loop-change-preserved c =
    map_more (pair_joint c.args.dataset.now) c.args.changed.now c.args.list.now.items c.loop-change.list.items _ c.loop-change.change-index c.change-item.result c.pair_joint.result c.loop-change-test.true c.change-item.is
    c.pair_joint.ensures c.loop-change.invariant c.in_ok-put.ensures

pub returns : goal.returns
returns c = c.loop-change.invariant ∙ ap (λ cs. c.args.list.now.items ++ map (pair_joint c.args.dataset.now) cs) (take_all c.loop-change.change-index c.args.changed.now c.loop-change-test.false)
