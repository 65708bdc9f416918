use Rattle.std.proofs.Common.{◌∙◌, ◌+◌, ◌||◌, List, sym, refl, ap, drop, map}
use Rattle.parent_rows.proofs.ChainWalks.{image_kept}
use Rattle.op_model.specs.declared.request.AskedPair.{AskedPair}
use Rattle.graph_model.specs.Lists.{has}
use Rattle.op_model.specs.Edges.{named_ends}
use Rattle.op_model.specs.Labels.{root}
use Rattle.op_model.specs.Locks.{lock_of}
use Rattle.root_masks.specs.Masks.{has_bit}
use Rattle.edit_merge.proofs.Merging.{pair_left, none_left, known_at, locks_more, locks_end}
use Rattle.root_masks.proofs.Asked.{no_bits}
use Rattle.edit_merge.proofs.planning.mask_of.Goals as goal

pub loop-done-init : goal.loop-done-init
loop-done-init g c = record {
  same = refl;
  left = λ d b log i a n. ap (λ t. t || has (map (lock_of d.layout) (map (root d b log) (named_ends c.args.pairs.now))) n) (no_bits n);
}

pub with_ends-mask-requires : goal.with_ends-mask-requires
with_ends-mask-requires g c =
    let r = c.requires.known in
    let k = known_at r.1 c.args.pairs.now c.loop-done.done c.index-pairs-done.result r.4 c.loop-done-test.true c.index-pairs-done.is in
    record { known = (r.0, r.1, r.2, image_kept g.W.Words.words r.0 r.1 r.2 c.loop-done.invariant.same r.3, k) }

pub loop-done-preserved : goal.loop-done-preserved
loop-done-preserved g c = record {
  same = c.with_ends-mask.ensures.same ∙ c.loop-done.invariant.same;
  left = λ d b log i a n.
      let k = known_at b c.args.pairs.now c.loop-done.done c.index-pairs-done.result a c.loop-done-test.true c.index-pairs-done.is in
      locks_more d b log c.loop-done.mask c.with_ends-mask.result c.index-pairs-done.result (drop (c.loop-done.done + 1) c.args.pairs.now) n _
      (c.with_ends-mask.ensures.is d b log (image_kept g.W.Words.words d b log c.loop-done.invariant.same i) k.0 k.1 n)
      (ap (λ (ps : List AskedPair). has_bit c.loop-done.mask n || has (map (lock_of d.layout) (map (root d b log) (named_ends ps))) n)
      (sym (pair_left c.args.pairs.now c.loop-done.done c.index-pairs-done.result c.loop-done-test.true c.index-pairs-done.is))
      ∙ c.loop-done.invariant.left d b log i a n);
}

pub returns-clause-is : goal.returns-clause-is
returns-clause-is g c d b log i a n =
    locks_end d b log c.loop-done.mask n _
    (ap (λ (ps : List AskedPair). has_bit c.loop-done.mask n || has (map (lock_of d.layout) (map (root d b log) (named_ends ps))) n) (sym (none_left c.args.pairs.now c.loop-done.done c.loop-done-test.false))
    ∙ c.loop-done.invariant.left d b log i a n)
