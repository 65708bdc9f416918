use Rattle.std.proofs.Common.{◌∙◌, ap}
use Rattle.std.specs.List.{flat_map}
use Rattle.base_rows.proofs.Passing.{take_whole}
use Rattle.entry_lists.specs.Parts.{ends_of}
use Rattle.entry_lists.proofs.EdgeFacts.{ends_next}
use Rattle.entry_lists.proofs.edges.pair_ends.Goals as goal

pub loop-pair-init : goal.loop-pair-init
loop-pair-init c = c.new-list.ensures.items

pub loop-pair-preserved : goal.loop-pair-preserved
loop-pair-preserved c = ends_next c.args.pairs.now c.loop-pair.pair-index c.pair-item.result _ _ c.loop-pair-test.true c.pair-item.is c.loop-pair.invariant c.in_ok-put_ends.ensures

pub returns : goal.returns
returns c = c.loop-pair.invariant ∙ ap (flat_map ends_of) (take_whole c.args.pairs.now c.loop-pair.pair-index c.loop-pair-test.false)
