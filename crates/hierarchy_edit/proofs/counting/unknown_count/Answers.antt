use Rattle.std.proofs.Common.{◌∙◌, refl, sym, ap, arith}
use Rattle.op_model.specs.Records.{unknown_count}
use Rattle.base_rows.proofs.Passing.{take_whole}
use Rattle.edge_rows.proofs.ChainFacts.{image_kept}
use Rattle.hierarchy_edit.proofs.Counts.{count_next, count_none}
use Rattle.hierarchy_edit.proofs.counting.unknown_count.Goals as goal

pub loop-change-init : goal.loop-change-init
loop-change-init g c = record { same = refl; few = omega arith; is = λ d b log i. sym (count_none d b log c.args.changed.now) }

pub count_unknown-count-requires : goal.count_unknown-count-requires
count_unknown-count-requires g c = let r = c.requires.image in record { image = (r.0, r.1, r.2, image_kept g.W.Words.words r.0 r.1 r.2 c.loop-change.invariant.same r.3) }

pub loop-change-preserved : goal.loop-change-preserved
loop-change-preserved g c = record {
  same = c.count_unknown-count.ensures.same ∙ c.loop-change.invariant.same;
  few = (let f = c.loop-change.invariant.few in let o = c.count_unknown-count.ensures.few in omega (arith, f, o));
  is = λ d b log i.
      count_next d b log c.args.changed.now c.loop-change.change-index c.change-item.result _ _ c.loop-change-test.true c.change-item.is (c.loop-change.invariant.is d b log i)
      (c.count_unknown-count.ensures.is d b log (image_kept g.W.Words.words d b log c.loop-change.invariant.same i));
}

pub returns-clause-same : goal.returns-clause-same
returns-clause-same g c = c.loop-change.invariant.same

pub returns-clause-is : goal.returns-clause-is
returns-clause-is g c = λ d b log i. c.loop-change.invariant.is d b log i ∙ ap (unknown_count d b log) (take_whole c.args.changed.now c.loop-change.change-index c.loop-change-test.false)
