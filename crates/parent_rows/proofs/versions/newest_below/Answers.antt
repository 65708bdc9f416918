use Rattle.std.proofs.Common.{◌∙◌}
use Rattle.record_rows.specs.Rows.{LinkRow}
use Rattle.record_rows.specs.Chains.{version_of}
use Rattle.record_rows.specs.LogRows.{rows_of}
use Rattle.parent_rows.proofs.ChainWalks.{image_kept, walk_falls}
use Rattle.parent_rows.proofs.Told.{link_entry}
use Rattle.parent_rows.proofs.VersionWalks.{version_link, newest_start, newest_step, newest_stop, newest_end}
use Rattle.parent_rows.proofs.versions.newest_below.Goals as goal

pub loop-at-init : goal.loop-at-init
loop-at-init g c = (
  c.start-at.ensures.same,
  λ d b log id i h. newest_start d b log _ i id c.args.below (c.start-at.ensures.is d b log id i h),
)

pub fixed-requires-clause-within : goal.fixed-requires-clause-within
fixed-requires-clause-within g c =
    let r = c.requires.owner in
    let inv = c.loop-at.invariant in
    let l = version_link (rows_of r.0 r.1 r.2) r.3 c.in-Some.link c.in-Some.is (inv.1 r.0 r.1 r.2 r.3 r.4 r.5).0 in
    (link_entry r.0 r.1 r.2 _ (image_kept g.W.Words.words r.0 r.1 r.2 inv.0 r.4) c.in-Some.link l.0 l.1).0

pub returns-then-fixed-below-clause-is : goal.returns-then-fixed-below-clause-is
returns-then-fixed-below-clause-is g c = λ d b log id i h.
    let inv = c.loop-at.invariant in
    let at = inv.1 d b log id i h in
    let l = version_link (rows_of d b log) id c.in-Some.link c.in-Some.is at.0 in
    newest_stop d b log _ (image_kept g.W.Words.words d b log inv.0 i) id c.args.below c.in-Some.link l.0 c.loop-at.found l.1 c.fixed.ensures.is c.if-fixed-below.true c.in-Some.is at

pub next_version-at-requires : goal.next_version-at-requires
next_version-at-requires g c =
    let r = c.requires.owner in
    let inv = c.loop-at.invariant in
    let l = version_link (rows_of r.0 r.1 r.2) r.3 c.in-Some.link c.in-Some.is (inv.1 r.0 r.1 r.2 r.3 r.4 r.5).0 in
    record { link = (r.0, r.1, r.2, l.0, image_kept g.W.Words.words r.0 r.1 r.2 (c.fixed.ensures.same ∙ inv.0) r.4, l.1) }

pub loop-at-smaller : goal.loop-at-smaller
loop-at-smaller g c =
    let r = c.requires.owner in
    let inv = c.loop-at.invariant in
    let l = version_link (rows_of r.0 r.1 r.2) r.3 c.in-Some.link c.in-Some.is (inv.1 r.0 r.1 r.2 r.3 r.4 r.5).0 in
    walk_falls r.0 r.1 r.2 _ r.4 c.in-Some.link (LinkRow l.0) l.1 (version_of l.0.child) c.in-Some.is
    (c.next_version-at.ensures.is r.0 r.1 r.2 l.0 (image_kept g.W.Words.words r.0 r.1 r.2 (c.fixed.ensures.same ∙ inv.0) r.4) l.1)

pub loop-at-preserved : goal.loop-at-preserved
loop-at-preserved g c = (
  c.next_version-at.ensures.same ∙ (c.fixed.ensures.same ∙ c.loop-at.invariant.0),
  λ d b log id i h.
      let inv = c.loop-at.invariant in
      let at = inv.1 d b log id i h in
      let l = version_link (rows_of d b log) id c.in-Some.link c.in-Some.is at.0 in
      newest_step d b log _ (image_kept g.W.Words.words d b log inv.0 i) id c.args.below c.in-Some.link l.0 c.loop-at.found l.1 l.2 c.fixed.ensures.is c.if-fixed-below.false c.in-Some.is
      (c.next_version-at.ensures.is d b log l.0 (image_kept g.W.Words.words d b log (c.fixed.ensures.same ∙ inv.0) i) l.1)
      at,
)

pub returns-clause-is : goal.returns-clause-is
returns-clause-is g c = λ d b log id i h. newest_end d b log _ i id c.args.below c.loop-at.at c.loop-at.found c.in_default.not-Some (c.loop-at.invariant.1 d b log id i h)
