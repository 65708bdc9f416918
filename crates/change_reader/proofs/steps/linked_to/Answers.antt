use Rattle.std.proofs.Common.{◌≡◌, ◌∙◌, [], Some, sym, subst}
use Rattle.op_model.specs.Operations.{ascending, entry_at}
use Rattle.op_model.specs.Transcript.{log_at}
use Rattle.record_rows.specs.Readings.{Image}
use Rattle.record_rows.proofs.ImageFacts.{parent_image}
use Rattle.change_laws.specs.Visits.{linked_by}
use Rattle.change_reader.proofs.EntryPlaces.{at_entry, at_number}
use Rattle.change_reader.proofs.Linked.{first_links}
use Rattle.change_reader.proofs.EntryFacts.{is_inner}
use Rattle.change_reader.proofs.steps.linked_to.Goals as goal

pub returns-then-n-eq0-clause-is : goal.returns-then-n-eq0-clause-is
returns-then-n-eq0-clause-is g c d b log e i h =
    c.new.ensures.items
    ∙ subst (λ k. [] ≡ ascending (linked_by d b e (log_at d b log k) c.args.roots.now)) (sym c.if-n-eq0.true) (first_links d b log e c.args.roots.now (at_entry d b log 0 e i.legal (subst (λ k. entry_at log k ≡ Some e) c.if-n-eq0.true h)))

pub all_changed-requires : goal.all_changed-requires
all_changed-requires g c = let r = c.requires.entry in record { entry = (r.0, r.1, r.2, r.3, r.4) }

pub before_changes-requires-clause-entry : goal.before_changes-requires-clause-entry
before_changes-requires-clause-entry g c =
    let r = c.requires.entry in
    let image = subst (λ w. Image r.0 r.1 r.2 (g.W.Words.words w)) (sym c.all_changed.ensures.same) r.3 in
    let x = at_number r.0 r.1 r.2 c.args.n r.3.legal r.4 in (
      r.0,
      r.1,
      r.2,
      x.0,
      is_inner r.0 r.1 r.2 _ c.args.n image c.if-n-eq0.false r.4,
      record { image = parent_image r.0 r.1 r.2 _ image; entry = x.1.found; pairs = c.in_ok-changed.ensures.is r.0 r.1 r.2 x.0 r.3 x.1.found },
    )

pub returns-clause-is : goal.returns-clause-is
returns-clause-is g c d b log e i h =
    let image = subst (λ w. Image d b log (g.W.Words.words w)) (sym c.all_changed.ensures.same) i in
    let at = at_entry d b log c.args.n e i.legal h in
    c.before_changes.ensures.is d b log e
    (is_inner d b log _ c.args.n image c.if-n-eq0.false at.below)
    (record { image = parent_image d b log _ image; entry = h; pairs = c.in_ok-changed.ensures.is d b log e i h })
