use Rattle.std.proofs.Common.{rules, of_calls, arith}
use Rattle.std.proofs.lemmas.Fn.{always_returns_same}
use Rattle.op_model.specs.declared.entry.Changed.{Changed}
use Rattle.op_model.specs.Edges.{pair_before}
use Rattle.touched_part.proofs.ChangedPlaces.{parted}
use Rattle.touched_part.proofs.edging.place_for.Goals as goal

pub returns-clause-low : goal.returns-clause-low
unfolding pair_before
returns-clause-low c i d l m =
    let point = c.partition_point.ensures.partitioned (λ (x : Changed). pair_before x.pair c.args.pair.now) (always_returns_same _ _ _ (λ a r f k. search (rules, of_calls))) (parted c.args.changed.now c.args.pair.now c.requires) in
    point.0 i d (omega arith) l

pub returns-clause-high : goal.returns-clause-high
unfolding pair_before
returns-clause-high c i d l m =
    let point = c.partition_point.ensures.partitioned (λ (x : Changed). pair_before x.pair c.args.pair.now) (always_returns_same _ _ _ (λ a r f k. search (rules, of_calls))) (parted c.args.changed.now c.args.pair.now c.requires) in
    point.1 i d l m
