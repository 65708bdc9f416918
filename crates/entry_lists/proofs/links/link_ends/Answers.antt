use Rattle.std.proofs.Common.{get_or, refl, ◌∙◌}
use Rattle.record_rows.specs.LogRows.{rows_of}
use Rattle.row_append.specs.Ends.{VersionsOf}
use Rattle.parent_rows.proofs.ChainWalks.{image_kept}
use Rattle.entry_lists.proofs.HeldFacts.{ends_next, ends_whole, held_at}
use Rattle.entry_lists.proofs.Tails.{pointers_more, pointers_none, tails_none}
use Rattle.entry_lists.proofs.links.link_ends.Goals as goal

pub loop-place-init : goal.loop-place-init
loop-place-init g c = record {
  same = refl;
  ends = λ d b log ids i h. tails_none VersionsOf ids (rows_of d b log) _ c.new-list.ensures.items;
  pointers = pointers_none _ c.new-list.ensures.items;
}

pub versions_end-tail-requires : goal.versions_end-tail-requires
versions_end-tail-requires g c =
    let r = c.requires.held in
    record {
      owner = (
        r.0,
        r.1,
        r.2,
        get_or r.3 c.loop-place.place-index 0,
        image_kept g.W.Words.words r.0 r.1 r.2 c.loop-place.invariant.same r.4,
        held_at r.0 r.1 r.2 r.3 c.args.places.now r.5 c.loop-place.place-index c.place-item.result c.loop-place-test.true c.place-item.is,
      );
    }

pub loop-place-preserved : goal.loop-place-preserved
loop-place-preserved g c = record {
  same = c.versions_end-tail.ensures.same ∙ c.loop-place.invariant.same;
  ends = λ d b log ids i h.
      ends_next d b log ids c.args.places.now h c.loop-place.place-index _ _ _ c.loop-place-test.true c.in-Ok.ensures.items (c.loop-place.invariant.ends d b log ids i h)
      (c.versions_end-tail.ensures.end d b log (get_or ids c.loop-place.place-index 0) (image_kept g.W.Words.words d b log c.loop-place.invariant.same i) (held_at d b log ids c.args.places.now h c.loop-place.place-index c.place-item.result c.loop-place-test.true c.place-item.is));
  pointers = pointers_more _ _ _ c.in-Ok.ensures.items c.loop-place.invariant.pointers c.versions_end-tail.ensures.pointer.0 c.versions_end-tail.ensures.pointer.1;
}

pub returns-clause-ends : goal.returns-clause-ends
returns-clause-ends g c = λ d b log ids i h. ends_whole d b log ids c.args.places.now h c.loop-place.place-index c.loop-place.list.items c.loop-place-test.false (c.loop-place.invariant.ends d b log ids i h)
