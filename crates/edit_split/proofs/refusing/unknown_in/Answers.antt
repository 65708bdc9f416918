use Rattle.std.proofs.Common.{◌∙◌, ◌+◌, sym, refl, ap, drop}
use Rattle.parent_rows.proofs.ChainWalks.{image_kept}
use Rattle.op_model.specs.Refusals.{refuse_unknown}
use Rattle.edit_split.proofs.Refused.{marks_left, none_left, unknown_here, unknown_later, unknown_nothing}
use Rattle.edit_split.proofs.refusing.unknown_in.Goals as goal

pub loop-at-init : goal.loop-at-init
loop-at-init g c = record { same = refl; left = λ d b log i. refl }

pub returns-then-not-is_known-clause-is : goal.returns-then-not-is_known-clause-is
returns-then-not-is_known-clause-is g c d b log i =
    let known = c.is_known.ensures.is d b log (image_kept g.W.Words.words d b log c.loop-at.invariant.same i) in
    unknown_here d b c.index-marks-at.result (drop (c.loop-at.at + 1) c.args.marks.now) (sym known ∙ c.if-not-is_known.true)
    ∙ sym (c.loop-at.invariant.left d b log i ∙ ap (refuse_unknown d b) (marks_left c.args.marks.now c.loop-at.at c.index-marks-at.result c.loop-at-test.true c.index-marks-at.is))

pub loop-at-preserved : goal.loop-at-preserved
loop-at-preserved g c = record {
  same = c.is_known.ensures.same ∙ c.loop-at.invariant.same;
  left = λ d b log i.
      let known = c.is_known.ensures.is d b log (image_kept g.W.Words.words d b log c.loop-at.invariant.same i) in
      c.loop-at.invariant.left d b log i
      ∙ (ap (refuse_unknown d b) (marks_left c.args.marks.now c.loop-at.at c.index-marks-at.result c.loop-at-test.true c.index-marks-at.is)
      ∙ unknown_later d b c.index-marks-at.result (drop (c.loop-at.at + 1) c.args.marks.now) (sym known ∙ c.if-not-is_known.false));
}

pub returns-clause-is : goal.returns-clause-is
returns-clause-is g c d b log i =
    unknown_nothing d b ∙ sym (c.loop-at.invariant.left d b log i ∙ ap (refuse_unknown d b) (none_left c.args.marks.now c.loop-at.at c.loop-at-test.false))
