use Rattle.std.proofs.Common.{sym, ◌∙◌, ap, subst}
use Rattle.op_model.specs.declared.request.Edit.TheVariants.{Undo, Redo}
use Rattle.op_model.specs.declared.entry.Asked.TheVariants as asked
use Rattle.record_rows.specs.Readings.{Image}
use Rattle.record_rows.proofs.ImageFacts.{parent_image}
use Rattle.log_rows.specs.Entries.{AtEntry, InEntry}
use Rattle.log_rows.specs.Heads.{head_of}
use Rattle.log_rows.proofs.KindCodes.{ingest_asked, merge_asked, split_asked, undo_asked, redo_asked}
use Rattle.log_rows.proofs.asking.asked_at.Goals as goal

pub head_at-head-requires : goal.head_at-head-requires
head_at-head-requires g c =
    let r = c.requires.entry in
    let a : AtEntry (g.W.Words.words c.args.w.now) c.args.entry = record { dataset = r.dataset; base = r.base; log = r.log; entry = r.entry; image = parent_image r.dataset r.base r.log _ r.image; stands = r.stands } in
    record { entry = a }

pub merge_at-requires : goal.merge_at-requires
merge_at-requires g c = record { entry = subst (λ w. InEntry (g.W.Words.words w) c.args.entry) (sym c.head_at-head.ensures.same) c.requires.entry }

pub split_at-requires : goal.split_at-requires
split_at-requires g c = record { entry = subst (λ w. InEntry (g.W.Words.words w) c.args.entry) (sym c.head_at-head.ensures.same) c.requires.entry }

pub returns-in-Ingest-clause-is : goal.returns-in-Ingest-clause-is
unfolding head_of
returns-in-Ingest-clause-is g c = λ d b log e i h.
    let q = c.head_at-head.ensures.is d b log e (parent_image d b log _ i) h in
    ingest_asked e.asked (sym (ap (λ x. x.kind) q) ∙ c.in-Ingest.is)

pub returns-in-Merge-clause-is : goal.returns-in-Merge-clause-is
unfolding head_of
returns-in-Merge-clause-is g c = λ d b log e i h.
    let q = c.head_at-head.ensures.is d b log e (parent_image d b log _ i) h in
    let m = merge_asked e.asked (sym (ap (λ x. x.kind) q) ∙ c.in-Merge.is) in
    c.merge_at.ensures.is d b log e m.0 (subst (λ w. Image d b log (g.W.Words.words w)) (sym c.head_at-head.ensures.same) i) h m.1

pub returns-in-Split-clause-is : goal.returns-in-Split-clause-is
unfolding head_of
returns-in-Split-clause-is g c = λ d b log e i h.
    let q = c.head_at-head.ensures.is d b log e (parent_image d b log _ i) h in
    let m = split_asked e.asked (sym (ap (λ x. x.kind) q) ∙ c.in-Split.is) in
    c.split_at.ensures.is d b log e m.0 m.1 (subst (λ w. Image d b log (g.W.Words.words w)) (sym c.head_at-head.ensures.same) i) h m.2

pub returns-in-Undo-clause-is : goal.returns-in-Undo-clause-is
unfolding head_of
returns-in-Undo-clause-is g c = λ d b log e i h.
    let q = c.head_at-head.ensures.is d b log e (parent_image d b log _ i) h in
    ap (λ n. asked.Edit (Undo n)) (ap (λ x. x.names) q) ∙ undo_asked e.asked (sym (ap (λ x. x.kind) q) ∙ c.in-Undo.is)

pub returns-in-Redo-clause-is : goal.returns-in-Redo-clause-is
unfolding head_of
returns-in-Redo-clause-is g c = λ d b log e i h.
    let q = c.head_at-head.ensures.is d b log e (parent_image d b log _ i) h in
    ap (λ n. asked.Edit (Redo n)) (ap (λ x. x.names) q) ∙ redo_asked e.asked (sym (ap (λ x. x.kind) q) ∙ c.in-Redo.is)
