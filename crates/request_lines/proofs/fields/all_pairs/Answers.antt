use Rattle.std.proofs.Common.{rules}
use Rattle.request_lines.specs.Fields.{pair_in}
use Rattle.request_lines.proofs.Listed.{behind_next}
use Rattle.request_lines.proofs.fields.all_pairs.Goals as goal

pub loop-item-preserved : goal.loop-item-preserved
loop-item-preserved c =
    behind_next pair_in c.args.items.now c.loop-item.item-index c.item-item.result c.in-Some.pair c.loop-item.list.items c.push.new.self.items _ c.loop-item-test.true c.item-item.is (search rules) (search rules) c.loop-item.invariant
