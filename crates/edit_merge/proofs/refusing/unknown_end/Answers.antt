use Rattle.std.proofs.Common.{◌∙◌, ◌+◌, sym, refl, ap, drop}
use Rattle.parent_rows.proofs.ChainWalks.{image_kept}
use Rattle.op_model.specs.Edges.{named_ends}
use Rattle.edit_merge.specs.Plans.{first_unknown}
use Rattle.edit_merge.proofs.Merging.{pair_left, none_left, first_missing, second_missing, none_missing, none_unknown}
use Rattle.edit_merge.proofs.refusing.unknown_end.Goals as goal

pub loop-done-init : goal.loop-done-init
loop-done-init g c = record { same = refl; left = λ d b log i. refl }

pub returns-then-not-is_known-clause-is : goal.returns-then-not-is_known-clause-is
returns-then-not-is_known-clause-is g c d b log i =
    let known = c.is_known.ensures.is d b log (image_kept g.W.Words.words d b log c.loop-done.invariant.same i) in
    first_missing b c.index-pairs-done.result (drop (c.loop-done.done + 1) c.args.pairs.now) (sym known ∙ c.if-not-is_known.true)
    ∙ sym (c.loop-done.invariant.left d b log i ∙ ap (λ ps. first_unknown b (named_ends ps)) (pair_left c.args.pairs.now c.loop-done.done c.index-pairs-done.result c.loop-done-test.true c.index-pairs-done.is))

pub returns-then-not-is_known-2-clause-is : goal.returns-then-not-is_known-2-clause-is
returns-then-not-is_known-2-clause-is g c d b log i =
    let known = c.is_known.ensures.is d b log (image_kept g.W.Words.words d b log c.loop-done.invariant.same i) in
    let more = c.is_known-in-loop-done.ensures.is d b log (image_kept g.W.Words.words d b log (c.is_known.ensures.same ∙ c.loop-done.invariant.same) i) in
    second_missing b c.index-pairs-done.result (drop (c.loop-done.done + 1) c.args.pairs.now) (sym known ∙ c.if-not-is_known.false) (sym more ∙ c.if-not-is_known-2.true)
    ∙ sym (c.loop-done.invariant.left d b log i ∙ ap (λ ps. first_unknown b (named_ends ps)) (pair_left c.args.pairs.now c.loop-done.done c.index-pairs-done.result c.loop-done-test.true c.index-pairs-done.is))

pub loop-done-preserved : goal.loop-done-preserved
loop-done-preserved g c = record {
  same = c.is_known-in-loop-done.ensures.same ∙ (c.is_known.ensures.same ∙ c.loop-done.invariant.same);
  left = λ d b log i.
      let known = c.is_known.ensures.is d b log (image_kept g.W.Words.words d b log c.loop-done.invariant.same i) in
      let more = c.is_known-in-loop-done.ensures.is d b log (image_kept g.W.Words.words d b log (c.is_known.ensures.same ∙ c.loop-done.invariant.same) i) in
      c.loop-done.invariant.left d b log i
      ∙ (ap (λ ps. first_unknown b (named_ends ps)) (pair_left c.args.pairs.now c.loop-done.done c.index-pairs-done.result c.loop-done-test.true c.index-pairs-done.is)
      ∙ none_missing b c.index-pairs-done.result (drop (c.loop-done.done + 1) c.args.pairs.now) (sym known ∙ c.if-not-is_known.false) (sym more ∙ c.if-not-is_known-2.false));
}

pub returns-clause-is : goal.returns-clause-is
returns-clause-is g c d b log i =
    none_unknown b ∙ sym (c.loop-done.invariant.left d b log i ∙ ap (λ ps. first_unknown b (named_ends ps)) (none_left c.args.pairs.now c.loop-done.done c.loop-done-test.false))
