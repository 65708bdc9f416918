use Rattle.std.proofs.Common.{◌∙◌, ◌+◌, sym, refl, ap, drop}
use Rattle.parent_rows.proofs.ChainWalks.{image_kept}
use Rattle.edit_merge.specs.Plans.{first_joined}
use Rattle.edit_merge.proofs.Merging.{pair_left, none_left, known_at, joined_here, joined_later, none_joined}
use Rattle.edit_merge.proofs.refusing.joined_pair.Goals as goal

pub loop-done-init : goal.loop-done-init
loop-done-init g c = record { same = refl; left = λ d b log i k. refl }

pub is_joined-requires : goal.is_joined-requires
is_joined-requires g c =
    let r = c.requires.known in
    let k = known_at r.1 c.args.pairs.now c.loop-done.done c.index-pairs-done.result r.4 c.loop-done-test.true c.index-pairs-done.is in
    record { known = (r.0, r.1, r.2, image_kept g.W.Words.words r.0 r.1 r.2 c.loop-done.invariant.same r.3, k) }

pub returns-then-is_joined-clause-is : goal.returns-then-is_joined-clause-is
returns-then-is_joined-clause-is g c d b log i a =
    let k = known_at b c.args.pairs.now c.loop-done.done c.index-pairs-done.result a c.loop-done-test.true c.index-pairs-done.is in
    joined_here d b log c.index-pairs-done.result (drop (c.loop-done.done + 1) c.args.pairs.now)
    (sym (c.is_joined.ensures.is d b log (image_kept g.W.Words.words d b log c.loop-done.invariant.same i) k.0 k.1) ∙ c.if-is_joined.true)
    ∙ sym (c.loop-done.invariant.left d b log i a ∙ ap (first_joined d b log) (pair_left c.args.pairs.now c.loop-done.done c.index-pairs-done.result c.loop-done-test.true c.index-pairs-done.is))

pub loop-done-preserved : goal.loop-done-preserved
loop-done-preserved g c = record {
  same = c.is_joined.ensures.same ∙ c.loop-done.invariant.same;
  left = λ d b log i a.
      let k = known_at b c.args.pairs.now c.loop-done.done c.index-pairs-done.result a c.loop-done-test.true c.index-pairs-done.is in
      c.loop-done.invariant.left d b log i a
      ∙ (ap (first_joined d b log) (pair_left c.args.pairs.now c.loop-done.done c.index-pairs-done.result c.loop-done-test.true c.index-pairs-done.is)
      ∙ joined_later d b log c.index-pairs-done.result (drop (c.loop-done.done + 1) c.args.pairs.now)
      (sym (c.is_joined.ensures.is d b log (image_kept g.W.Words.words d b log c.loop-done.invariant.same i) k.0 k.1) ∙ c.if-is_joined.false));
}

pub returns-clause-is : goal.returns-clause-is
returns-clause-is g c d b log i a =
    none_joined d b log ∙ sym (c.loop-done.invariant.left d b log i a ∙ ap (first_joined d b log) (none_left c.args.pairs.now c.loop-done.done c.loop-done-test.false))
