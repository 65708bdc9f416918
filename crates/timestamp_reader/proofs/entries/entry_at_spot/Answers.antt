use Rattle.std.proofs.Common.{◌∙◌, sym, subst}
use Rattle.record_rows.specs.Readings.{Image, ParentImage}
use Rattle.record_rows.proofs.ImageFacts.{parent_image}
use Rattle.log_rows.specs.Entries.{AtEntry, InEntry}
use Rattle.log_rows.proofs.NextEntries.{number_held}
use Rattle.change_reader.proofs.EntryFacts.{of_head}
use Rattle.timestamp_reader.proofs.entries.entry_at_spot.Goals as goal

pub number-n-requires : goal.number-n-requires
number-n-requires g c =
    let r = c.requires.entry in
    let a : AtEntry (g.W.Words.words c.args.w.now) c.args.spot = record { dataset = r.dataset; base = r.base; log = r.log; entry = r.entry; image = parent_image r.dataset r.base r.log _ r.image; stands = r.stands } in
    record { entry = a }

pub head_at-head-requires : goal.head_at-head-requires
head_at-head-requires g c =
    let r = c.requires.entry in
    let a : AtEntry (g.W.Words.words c.args.w.now) c.args.spot = record { dataset = r.dataset; base = r.base; log = r.log; entry = r.entry; image = parent_image r.dataset r.base r.log _ r.image; stands = r.stands } in
    record { entry = subst (λ w. AtEntry (g.W.Words.words w) c.args.spot) (sym c.number-n.ensures.same) a }

pub asked_at-requires : goal.asked_at-requires
asked_at-requires g c = record { entry = subst (λ w. InEntry (g.W.Words.words w) c.args.spot) (sym (c.head_at-head.ensures.same ∙ c.number-n.ensures.same)) c.requires.entry }

pub all_changed_at-requires : goal.all_changed_at-requires
all_changed_at-requires g c =
    record { entry = subst (λ w. InEntry (g.W.Words.words w) c.args.spot) (sym (c.asked_at.ensures.same ∙ (c.head_at-head.ensures.same ∙ c.number-n.ensures.same))) c.requires.entry }

pub retired_by-requires : goal.retired_by-requires
retired_by-requires g c =
    let r = c.requires.entry in
    let parents = parent_image r.dataset r.base r.log _ r.image in
    let found = number_held r.dataset r.base r.log r.image.legal c.args.spot c.number-n.result r.entry r.stands (c.number-n.ensures.is r.dataset r.base r.log r.entry parents r.stands) in
    let at_changed = subst (λ w. Image r.dataset r.base r.log (g.W.Words.words w)) (sym (c.asked_at.ensures.same ∙ (c.head_at-head.ensures.same ∙ c.number-n.ensures.same))) r.image in
    let now = sym (c.all_changed_at.ensures.same ∙ (c.asked_at.ensures.same ∙ (c.head_at-head.ensures.same ∙ c.number-n.ensures.same))) in
    record {
      entry = (
        r.dataset,
        r.base,
        r.log,
        r.entry,
        record {
          image = subst (λ w. ParentImage r.dataset r.base r.log (g.W.Words.words w)) now parents;
          entry = found;
          pairs = c.in_ok-changed.ensures.is r.dataset r.base r.log r.entry at_changed r.stands;
        },
      );
    }

pub made_by-requires : goal.made_by-requires
made_by-requires g c =
    let r = c.requires.entry in
    let parents = parent_image r.dataset r.base r.log _ r.image in
    let found = number_held r.dataset r.base r.log r.image.legal c.args.spot c.number-n.result r.entry r.stands (c.number-n.ensures.is r.dataset r.base r.log r.entry parents r.stands) in
    let at_changed = subst (λ w. Image r.dataset r.base r.log (g.W.Words.words w)) (sym (c.asked_at.ensures.same ∙ (c.head_at-head.ensures.same ∙ c.number-n.ensures.same))) r.image in
    let now = sym (c.retired_by.ensures.same ∙ (c.all_changed_at.ensures.same ∙ (c.asked_at.ensures.same ∙ (c.head_at-head.ensures.same ∙ c.number-n.ensures.same)))) in
    record {
      entry = (
        r.dataset,
        r.base,
        r.log,
        r.entry,
        record {
          image = subst (λ w. ParentImage r.dataset r.base r.log (g.W.Words.words w)) now parents;
          entry = found;
          pairs = c.in_ok-changed.ensures.is r.dataset r.base r.log r.entry at_changed r.stands;
        },
      );
    }

pub returns-clause-is : goal.returns-clause-is
returns-clause-is g c d b log e i h =
    let parents = parent_image d b log _ i in
    let number = c.number-n.ensures.is d b log e parents h in
    let found = number_held d b log i.legal c.args.spot c.number-n.result e h number in
    let at_head = sym c.number-n.ensures.same in
    let at_asked = sym (c.head_at-head.ensures.same ∙ c.number-n.ensures.same) in
    let at_changed = sym (c.asked_at.ensures.same ∙ (c.head_at-head.ensures.same ∙ c.number-n.ensures.same)) in
    let at_retired = sym (c.all_changed_at.ensures.same ∙ (c.asked_at.ensures.same ∙ (c.head_at-head.ensures.same ∙ c.number-n.ensures.same))) in
    let at_made = sym (c.retired_by.ensures.same ∙ (c.all_changed_at.ensures.same ∙ (c.asked_at.ensures.same ∙ (c.head_at-head.ensures.same ∙ c.number-n.ensures.same)))) in
    let pairs = c.in_ok-changed.ensures.is d b log e (subst (λ w. Image d b log (g.W.Words.words w)) at_changed i) h in
    of_head c.number-n.result c.head_at-head.result e _ _ _ _
    (sym number)
    (c.head_at-head.ensures.is d b log e (subst (λ w. ParentImage d b log (g.W.Words.words w)) at_head parents) h)
    (c.in_ok-asked.ensures.is d b log e (subst (λ w. Image d b log (g.W.Words.words w)) at_asked i) h)
    pairs
    (c.in_ok-retired.ensures.is d b log e (record { image = subst (λ w. ParentImage d b log (g.W.Words.words w)) at_retired parents; entry = found; pairs = pairs }))
    (c.in_ok-made.ensures.is d b log e (record { image = subst (λ w. ParentImage d b log (g.W.Words.words w)) at_made parents; entry = found; pairs = pairs }))
