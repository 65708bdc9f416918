use Rattle.std.proofs.Common.{◌≡◌, ℕ, ◌<◌, List, length, Some, None, refl, sym, ◌∙◌, subst}
use Rattle.op_model.specs.declared.base.Dataset.{Dataset}
use Rattle.op_model.specs.declared.base.Base.{Base}
use Rattle.op_model.specs.declared.entry.Changed.{Changed}
use Rattle.op_model.specs.declared.entry.Entry.{Entry}
use Rattle.op_model.specs.Operations.{entry_at}
use Rattle.record_rows.specs.Readings.{Image, ParentImage, HoldsChange}
use Rattle.record_rows.proofs.ImageFacts.{parent_image}
use Rattle.record_rows.proofs.WalkLemmas.{steps_left}
use Rattle.log_rows.proofs.TurnWalks.{AllBelow, AllTurned, all_below, all_end, all_fall, all_first, all_here, all_on, all_past}
use Rattle.log_rows.proofs.turning.last_from.Goals as goal
use Rattle.log_rows.proofs.turning.last_from.Goals.{then-is_turn, else-is_turn}

pub loop-at-init : goal.loop-at-init
loop-at-init g c =
    let r = c.requires.entry in
    let below : AllBelow (g.W.Words.words c.args.w.now) c.args.op = all_below r.0 r.1 r.2 _ c.args.op r.3 r.4 in
    (refl, all_first _ c.args.op c.args.first below c.requires.change)

pub changer-entry-requires : goal.changer-entry-requires
changer-entry-requires g c =
    let r = c.requires.entry in
    let words : List ℕ = g.W.Words.words c.args.w.now in
    let below : AllBelow words c.args.op = all_below r.0 r.1 r.2 _ c.args.op r.3 r.4 in
    let all : AllTurned words c.args.op c.args.first c.loop-at.found (Some c.in-Some.change) = subst (AllTurned words c.args.op c.args.first c.loop-at.found) c.in-Some.is c.loop-at.invariant.1 in
    let h = all_here words c.args.op c.args.first below c.loop-at.found c.in-Some.change all r.0 r.1 r.2 r.3 in
    record { change = (r.0, r.1, r.2, h.0, h.1, subst (λ w. Image r.0 r.1 r.2 (g.W.Words.words w)) (sym c.loop-at.invariant.0) r.3, h.2) }

pub is_turn-requires : goal.is_turn-requires
is_turn-requires g c =
    let r = c.requires.entry in
    let words : List ℕ = g.W.Words.words c.args.w.now in
    let below : AllBelow words c.args.op = all_below r.0 r.1 r.2 _ c.args.op r.3 r.4 in
    let all : AllTurned words c.args.op c.args.first c.loop-at.found (Some c.in-Some.change) = subst (AllTurned words c.args.op c.args.first c.loop-at.found) c.in-Some.is c.loop-at.invariant.1 in
    let h = all_here words c.args.op c.args.first below c.loop-at.found c.in-Some.change all r.0 r.1 r.2 r.3 in
    let n : c.changer-entry.result ≡ h.0 = c.changer-entry.ensures.is r.0 r.1 r.2 h.0 h.1 (subst (λ w. Image r.0 r.1 r.2 (g.W.Words.words w)) (sym c.loop-at.invariant.0) r.3) h.2 in
    record {
      entry = (
        r.0,
        r.1,
        r.2,
        subst (λ w. ParentImage r.0 r.1 r.2 (g.W.Words.words w)) (sym (c.changer-entry.ensures.same ∙ c.loop-at.invariant.0)) (parent_image r.0 r.1 r.2 _ r.3),
        subst (λ k. k < length r.2) (sym n) h.3,
      );
    }

pub later_change-at-requires : goal.later_change-at-requires
later_change-at-requires g c =
    let r = c.requires.entry in
    let words : List ℕ = g.W.Words.words c.args.w.now in
    let below : AllBelow words c.args.op = all_below r.0 r.1 r.2 _ c.args.op r.3 r.4 in
    let all : AllTurned words c.args.op c.args.first c.loop-at.found (Some c.in-Some.change) = subst (AllTurned words c.args.op c.args.first c.loop-at.found) c.in-Some.is c.loop-at.invariant.1 in
    let h = all_here words c.args.op c.args.first below c.loop-at.found c.in-Some.change all r.0 r.1 r.2 r.3 in
    let same = c.is_turn.ensures.same ∙ (c.changer-entry.ensures.same ∙ c.loop-at.invariant.0) in
    record { change = (r.0, r.1, r.2, h.0, h.1, subst (λ w. Image r.0 r.1 r.2 (g.W.Words.words w)) (sym same) r.3, h.2) }

pub loop-at-smaller : goal.loop-at-smaller
loop-at-smaller g c =
    let r = c.requires.entry in
    let words : List ℕ = g.W.Words.words c.args.w.now in
    let below : AllBelow words c.args.op = all_below r.0 r.1 r.2 _ c.args.op r.3 r.4 in
    let all : AllTurned words c.args.op c.args.first c.loop-at.found (Some c.in-Some.change) = subst (AllTurned words c.args.op c.args.first c.loop-at.found) c.in-Some.is c.loop-at.invariant.1 in
    let same = c.is_turn.ensures.same ∙ (c.changer-entry.ensures.same ∙ c.loop-at.invariant.0) in
    subst (λ o. steps_left (length words) c.later_change-at.result < steps_left (length words) o) (sym c.in-Some.is)
    (all_fall words c.args.op c.args.first below c.loop-at.found c.in-Some.change all c.changer-entry.result
    (λ d b log j y i h. c.changer-entry.ensures.is d b log j y (subst (λ w. Image d b log (g.W.Words.words w)) (sym c.loop-at.invariant.0) i) h)
    c.later_change-at.result
    (λ d b log j y i h. c.later_change-at.ensures.is d b log j y (subst (λ w. Image d b log (g.W.Words.words w)) (sym same) i) h)
    r.0 r.1 r.2 r.3)

pub loop-at-preserved : goal.loop-at-preserved
loop-at-preserved g c =
    let r = c.requires.entry in
    let words : List ℕ = g.W.Words.words c.args.w.now in
    let below : AllBelow words c.args.op = all_below r.0 r.1 r.2 _ c.args.op r.3 r.4 in
    let all : AllTurned words c.args.op c.args.first c.loop-at.found (Some c.in-Some.change) = subst (AllTurned words c.args.op c.args.first c.loop-at.found) c.in-Some.is c.loop-at.invariant.1 in
    let before = c.changer-entry.ensures.same ∙ c.loop-at.invariant.0 in
    let same = c.is_turn.ensures.same ∙ before in
    let number = λ (d : Dataset) (b : Base) (log : List Entry) (j : ℕ) (y : Changed) (i : Image d b log words) (h : HoldsChange d b log c.in-Some.change j y).
    c.changer-entry.ensures.is d b log j y (subst (λ w. Image d b log (g.W.Words.words w)) (sym c.loop-at.invariant.0) i) h in
    let leads = λ (d : Dataset) (b : Base) (log : List Entry) (j : ℕ) (y : Changed) (i : Image d b log words) (h : HoldsChange d b log c.in-Some.change j y).
    c.later_change-at.ensures.is d b log j y (subst (λ w. Image d b log (g.W.Words.words w)) (sym same) i) h in
    let turn = λ (d : Dataset) (b : Base) (log : List Entry) (e : Entry) (i : ParentImage d b log words) (at : entry_at log c.changer-entry.result ≡ Some e).
    c.is_turn.ensures.is d b log e (subst (λ w. ParentImage d b log (g.W.Words.words w)) (sym before) i) at in
    let go : AllTurned words c.args.op c.args.first c.if-is_turn.found c.later_change-at.result =
    elim c.if-is_turn.branch [
      | then-is_turn w ↦ subst (λ n. AllTurned words c.args.op c.args.first n c.later_change-at.result) (sym w.found-is)
          (all_on words c.args.op c.args.first below c.loop-at.found c.in-Some.change all c.changer-entry.result number c.later_change-at.result leads c.is_turn.result turn w.if-is_turn.true)
      | else-is_turn w ↦ subst (λ n. AllTurned words c.args.op c.args.first n c.later_change-at.result) (sym w.found-is)
          (all_past words c.args.op c.args.first below c.loop-at.found c.in-Some.change all c.changer-entry.result number c.later_change-at.result leads c.is_turn.result turn w.if-is_turn.false)
    ] in
    (c.later_change-at.ensures.same ∙ same, go)

pub returns-clause-is : goal.returns-clause-is
returns-clause-is g c =
    let r = c.requires.entry in
    let words : List ℕ = g.W.Words.words c.args.w.now in
    let below : AllBelow words c.args.op = all_below r.0 r.1 r.2 _ c.args.op r.3 r.4 in
    let all : AllTurned words c.args.op c.args.first c.loop-at.found None = subst (AllTurned words c.args.op c.args.first c.loop-at.found) c.in_default.is c.loop-at.invariant.1 in
    all_end words c.args.op c.args.first below c.loop-at.found all
