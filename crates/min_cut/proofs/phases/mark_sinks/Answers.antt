use Rattle.std.proofs.Common.{length-set, refl}
use Rattle.min_cut.proofs.Marking.{marked_none, marked_more, marked_all}
use Rattle.min_cut.proofs.phases.mark_sinks.Goals as goal

pub loop-t-init : goal.loop-t-init
loop-t-init c = record { len = refl; below = marked_none c.args.sinks.now c.args.is_sink.now c.requires.none }

pub loop-t-preserved : goal.loop-t-preserved
loop-t-preserved c = record {
  len = rw length-set c.loop-t.invariant.len;
  below = marked_more c.args.sinks.now c.loop-t.is_sink c.loop-t.t-index c.loop-t-test.true (rw c.loop-t.auto.is_sink (c.requires.sinks _ _ c.loop-t-test.true)) c.loop-t.invariant.below;
}

pub returns : goal.returns
returns c = marked_all c.args.sinks.now c.loop-t.is_sink c.loop-t.t-index c.loop-t-test.false c.loop-t.invariant.below
