use Rattle.std.proofs.Common.{◌∙◌, ◌+◌, sym, refl, ap, drop}
use Rattle.parent_rows.proofs.ChainWalks.{image_kept}
use Rattle.edit_split.specs.Marks.{refuse_other}
use Rattle.edit_split.proofs.Refused.{known_at, marks_left, none_left, other_here, other_later, other_nothing}
use Rattle.edit_split.proofs.refusing.other_root.Goals as goal

pub loop-at-init : goal.loop-at-init
loop-at-init g c = record { same = refl; left = λ d b log i a. refl }

pub root_now-other-requires : goal.root_now-other-requires
root_now-other-requires g c =
    let (d, b, log, i, a) = c.requires.known in
    record { known = (d, b, log, image_kept g.W.Words.words d b log c.loop-at.invariant.same i, known_at b c.args.marks.now c.loop-at.at c.index-marks-at.result a c.loop-at-test.true c.index-marks-at.is) }

pub returns-then-ne-clause-is : goal.returns-then-ne-clause-is
returns-then-ne-clause-is g c d b log i a =
    let k = known_at b c.args.marks.now c.loop-at.at c.index-marks-at.result a c.loop-at-test.true c.index-marks-at.is in
    let is = c.root_now-other.ensures.is d b log (image_kept g.W.Words.words d b log c.loop-at.invariant.same i) k in
    other_here d b log c.args.first c.index-marks-at.result c.root_now-other.result (drop (c.loop-at.at + 1) c.args.marks.now) is c.if-ne.ensures
    ∙ sym (c.loop-at.invariant.left d b log i a ∙ ap (refuse_other d b log c.args.first) (marks_left c.args.marks.now c.loop-at.at c.index-marks-at.result c.loop-at-test.true c.index-marks-at.is))

pub loop-at-preserved : goal.loop-at-preserved
loop-at-preserved g c = record {
  same = c.root_now-other.ensures.same ∙ c.loop-at.invariant.same;
  left = λ d b log i a.
      let k = known_at b c.args.marks.now c.loop-at.at c.index-marks-at.result a c.loop-at-test.true c.index-marks-at.is in
      let is = c.root_now-other.ensures.is d b log (image_kept g.W.Words.words d b log c.loop-at.invariant.same i) k in
      c.loop-at.invariant.left d b log i a
      ∙ (ap (refuse_other d b log c.args.first) (marks_left c.args.marks.now c.loop-at.at c.index-marks-at.result c.loop-at-test.true c.index-marks-at.is)
      ∙ other_later d b log c.args.first c.index-marks-at.result c.root_now-other.result (drop (c.loop-at.at + 1) c.args.marks.now) is c.if-ne.ensures);
}

pub returns-clause-is : goal.returns-clause-is
returns-clause-is g c d b log i a =
    other_nothing d b log c.args.first ∙ sym (c.loop-at.invariant.left d b log i a ∙ ap (refuse_other d b log c.args.first) (none_left c.args.marks.now c.loop-at.at c.loop-at-test.false))
