use Rattle.std.proofs.Common.{◌∙◌, arith, length}
use Rattle.op_model.specs.Labels.{used}
use Rattle.parent_rows.proofs.ChainWalks.{image_kept}
use Rattle.made_nodes.proofs.Steps.{at_default, low_at, num_step, num_end}
use Rattle.made_nodes.proofs.LastNumbers.{held_at, small_chunk}
use Rattle.made_nodes.proofs.numbering.numbered.Goals as goal

pub number_behind-number-requires-clause-chunk : goal.number_behind-number-requires-clause-chunk
number_behind-number-requires-clause-chunk g c =
    let r = c.requires.chunks in (
      r.0,
      r.1,
      r.2,
      r.3,
      image_kept g.W.Words.words r.0 r.1 r.2 c.loop-owner.invariant.same r.4,
      held_at r.0 r.1 r.3 c.args.owners.now c.loop-owner.owner-index c.owner-item.result r.5 c.loop-owner-test.true c.owner-item.is,
    )

pub id_of-requires-clause-chunk : goal.id_of-requires-clause-chunk
id_of-requires-clause-chunk g c =
    let r = c.requires.chunks in
    small_chunk r.0 r.1 r.2 _ r.4 r.3 c.owner-item.result.chunk (held_at r.0 r.1 r.3 c.args.owners.now c.loop-owner.owner-index c.owner-item.result r.5 c.loop-owner-test.true c.owner-item.is)

pub id_of-requires-clause-number : goal.id_of-requires-clause-number
id_of-requires-clause-number g c =
    let l = c.number_behind-number.ensures.low c.loop-owner.owner-index c.loop-owner.invariant.low in
    let t = c.loop-owner-test.true in
    omega (arith, l, t)

pub loop-owner-preserved : goal.loop-owner-preserved
loop-owner-preserved g c = record {
  same = c.number_behind-number.ensures.same ∙ c.loop-owner.invariant.same;
  low = c.number_behind-number.ensures.low c.loop-owner.owner-index c.loop-owner.invariant.low;
  done = λ d b log layer i all.
      let held = held_at d b layer c.args.owners.now c.loop-owner.owner-index c.owner-item.result all c.loop-owner-test.true c.owner-item.is in
      let low = low_at (length c.args.ids.now) c.args.owners.now c.loop-owner.owner-index c.owner-item.result c.requires.leasts c.loop-owner-test.true c.owner-item.is in
      let i1 = image_kept g.W.Words.words d b log c.loop-owner.invariant.same i in
      num_step (used d b log layer) c.args.ids.now c.loop-owner.last c.loop-owner.number c.args.owners.now c.loop-owner.owner-index c.owner-item.result c.number_behind-number.result _
      c.loop-owner.list.items c.put.new.list.items _ c.loop-owner-test.true c.owner-item.is (c.number_behind-number.ensures.is d b log layer i1 held)
      (λ k. record { id = c.id_of.ensures k; chunk = c.owner-item.result.chunk; least = at_default c.args.ids.now c.owner-item.result.least c.index-ids-owner.result low c.index-ids-owner.is k })
      (c.loop-owner.invariant.done d b log layer i all) c.in_ok-put.ensures;
}

pub returns-clause-is : goal.returns-clause-is
returns-clause-is g c d b log layer i all =
    num_end (used d b log layer) c.args.ids.now c.loop-owner.last c.loop-owner.number c.args.owners.now c.loop-owner.owner-index c.loop-owner.list.items _ c.loop-owner-test.false (c.loop-owner.invariant.done d b log layer i all)
