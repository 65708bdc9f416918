use Rattle.std.proofs.Common.{◌≡◌, ◌∙◌, ◌<◌, Some, None, sym, ap, subst, length, rules}
use Rattle.std.specs.Option.{option_map_or}
use Rattle.op_model.specs.declared.reply.Refusal.TheVariants.{Overtaken}
use Rattle.op_model.specs.Operations.{entry_at}
use Rattle.record_rows.specs.Readings.{Image}
use Rattle.record_rows.proofs.ImageFacts.{parent_image}
use Rattle.log_rows.proofs.WalkBack.{entry_there}
use Rattle.undo_redo.proofs.Turning.{no_edit, no_turn, turns, about_at, same_way, other_way}
use Rattle.undo_redo.proofs.refusing.refusal_in.Goals as goal

pub head-asked-requires : goal.head-asked-requires
head-asked-requires g c = let r = c.requires.entry in record { entry = (r.0, r.1, r.2, parent_image r.0 r.1 r.2 _ r.3, r.4) }

pub returns-then-not-is_edit-clause-is : goal.returns-then-not-is_edit-clause-is
returns-then-not-is_edit-clause-is g c = λ d b log i low.
    let e = entry_there d b log c.args.op i.legal low in
    no_edit d b log c.args.op c.args.back e.0 e.1 (sym (c.is_edit.ensures e.0 (c.head-asked.ensures.is d b log e.0 (parent_image d b log _ i) e.1)) ∙ c.if-not-is_edit.true)

pub last_about_by_changes-last-requires : goal.last_about_by_changes-last-requires
last_about_by_changes-last-requires g c =
    let r = c.requires.entry in
    record { entry = (r.0, r.1, r.2, subst (λ w. Image r.0 r.1 r.2 (g.W.Words.words w)) (sym c.head-asked.ensures.same) r.3, r.4) }

pub head-requires : goal.head-requires
head-requires g c =
    let r = c.requires.entry in
    let f = c.last_about_by_changes-last.ensures.is r.0 r.1 r.2 (subst (λ w. Image r.0 r.1 r.2 (g.W.Words.words w)) (sym c.head-asked.ensures.same) r.3) in
    let low = (about_at r.0 r.1 r.2 c.args.op f.0 r.3.legal f.1).1 in
    record {
      entry = (
        r.0,
        r.1,
        r.2,
        parent_image r.0 r.1 r.2 _ (subst (λ w. Image r.0 r.1 r.2 (g.W.Words.words w)) (sym (c.last_about_by_changes-last.ensures.same ∙ c.head-asked.ensures.same)) r.3),
        subst (λ k. k < length r.2) (sym f.2) low,
      );
    }

pub returns-then-undone-back-clause-is : goal.returns-then-undone-back-clause-is
returns-then-undone-back-clause-is g c = λ d b log i low.
    let e = entry_there d b log c.args.op i.legal low in
    let is = sym (c.is_edit.ensures e.0 (c.head-asked.ensures.is d b log e.0 (parent_image d b log _ i) e.1)) ∙ c.if-not-is_edit.false in
    let f = c.last_about_by_changes-last.ensures.is d b log (subst (λ w. Image d b log (g.W.Words.words w)) (sym c.head-asked.ensures.same) i) in
    let at = subst (λ k. entry_at log k ≡ Some f.0) (sym f.2) (about_at d b log c.args.op f.0 i.legal f.1).0 in
    let u = c.is_undo-undone.ensures f.0 (c.head.ensures.is d b log f.0 (parent_image d b log _ (subst (λ w. Image d b log (g.W.Words.words w)) (sym (c.last_about_by_changes-last.ensures.same ∙ c.head-asked.ensures.same)) i)) at) in
    ap (λ r. Some r) c.out_of_turn.ensures ∙ no_turn d b log c.args.op e.0 f.0 e.1 is f.1 c.args.back (sym u ∙ same_way c.is_undo-undone.result c.args.back c.if-undone-back.true)

pub overtaken_by-requires : goal.overtaken_by-requires
overtaken_by-requires g c =
    let r = c.requires.entry in
    let f = c.last_about_by_changes-last.ensures.is r.0 r.1 r.2 (subst (λ w. Image r.0 r.1 r.2 (g.W.Words.words w)) (sym c.head-asked.ensures.same) r.3) in
    let low = (about_at r.0 r.1 r.2 c.args.op f.0 r.3.legal f.1).1 in
    record {
      entry = (
        r.0,
        r.1,
        r.2,
        subst (λ w. Image r.0 r.1 r.2 (g.W.Words.words w)) (sym (c.head.ensures.same ∙ (c.last_about_by_changes-last.ensures.same ∙ c.head-asked.ensures.same))) r.3,
        subst (λ k. k < length r.2) (sym f.2) low,
      );
    }

pub returns-in_err-by-clause-is : goal.returns-in_err-by-clause-is
returns-in_err-by-clause-is g c = λ d b log i low.
    let e = entry_there d b log c.args.op i.legal low in
    let is = sym (c.is_edit.ensures e.0 (c.head-asked.ensures.is d b log e.0 (parent_image d b log _ i) e.1)) ∙ c.if-not-is_edit.false in
    let f = c.last_about_by_changes-last.ensures.is d b log (subst (λ w. Image d b log (g.W.Words.words w)) (sym c.head-asked.ensures.same) i) in
    let at = subst (λ k. entry_at log k ≡ Some f.0) (sym f.2) (about_at d b log c.args.op f.0 i.legal f.1).0 in
    let u = c.is_undo-undone.ensures f.0 (c.head.ensures.is d b log f.0 (parent_image d b log _ (subst (λ w. Image d b log (g.W.Words.words w)) (sym (c.last_about_by_changes-last.ensures.same ∙ c.head-asked.ensures.same)) i)) at) in
    let o = c.overtaken_by.ensures.is d b log f.0 (subst (λ w. Image d b log (g.W.Words.words w)) (sym (c.head.ensures.same ∙ (c.last_about_by_changes-last.ensures.same ∙ c.head-asked.ensures.same))) i) at in
    let none : c.from_residual.result ≡ None = search rules in
    let lacks : c.overtaken_by.result ≡ None = search rules in
    none ∙ (ap (λ x. option_map_or (λ k. Some (Overtaken k)) x None) (sym lacks ∙ o)
    ∙ turns d b log c.args.op e.0 f.0 e.1 is f.1 c.args.back (sym u ∙ other_way c.is_undo-undone.result c.args.back c.if-undone-back.false))

pub returns-clause-is : goal.returns-clause-is
returns-clause-is g c = λ d b log i low.
    let e = entry_there d b log c.args.op i.legal low in
    let is = sym (c.is_edit.ensures e.0 (c.head-asked.ensures.is d b log e.0 (parent_image d b log _ i) e.1)) ∙ c.if-not-is_edit.false in
    let f = c.last_about_by_changes-last.ensures.is d b log (subst (λ w. Image d b log (g.W.Words.words w)) (sym c.head-asked.ensures.same) i) in
    let at = subst (λ k. entry_at log k ≡ Some f.0) (sym f.2) (about_at d b log c.args.op f.0 i.legal f.1).0 in
    let u = c.is_undo-undone.ensures f.0 (c.head.ensures.is d b log f.0 (parent_image d b log _ (subst (λ w. Image d b log (g.W.Words.words w)) (sym (c.last_about_by_changes-last.ensures.same ∙ c.head-asked.ensures.same)) i)) at) in
    let o = c.overtaken_by.ensures.is d b log f.0 (subst (λ w. Image d b log (g.W.Words.words w)) (sym (c.head.ensures.same ∙ (c.last_about_by_changes-last.ensures.same ∙ c.head-asked.ensures.same))) i) at in
    let has : c.overtaken_by.result ≡ Some c.in_ok-by.by = search rules in
    ap (λ x. option_map_or (λ k. Some (Overtaken k)) x None) (sym has ∙ o)
    ∙ turns d b log c.args.op e.0 f.0 e.1 is f.1 c.args.back (sym u ∙ other_way c.is_undo-undone.result c.args.back c.if-undone-back.false)
