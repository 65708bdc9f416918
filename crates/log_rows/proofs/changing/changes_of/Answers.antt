use Rattle.std.proofs.Common.{◌≡◌, ℕ, ◌<◌, ◌++◌, [], ◌∷◌, List, Some, None, refl, sym, ◌∙◌, ap, subst, length}
use Rattle.op_model.specs.declared.entry.Changed.{Changed}
use Rattle.record_rows.specs.Chains.{change_in}
use Rattle.record_rows.specs.LogRows.{rows_of}
use Rattle.record_rows.specs.Readings.{Image, first_place}
use Rattle.record_rows.proofs.ImageFacts.{parent_image}
use Rattle.record_rows.proofs.WalkLemmas.{steps_left}
use Rattle.log_rows.proofs.ChangeWords.{change_told, not_told, header_skips, change_at, change_picks}
use Rattle.log_rows.proofs.ChainWalk.{AllAlong, AllPick, AllNext, along_begins, along_at, along_steps, along_falls, along_ends}
use Rattle.log_rows.proofs.EntryParts.{of_log}
use Rattle.log_rows.proofs.NextEntries.{entry_here, number_held}
use Rattle.log_rows.proofs.changing.changes_of.Goals as goal

pub loop-next-init : goal.loop-next-init
loop-next-init g c =
    let n : ℕ = c.args.n in
    let words : List ℕ = g.W.Words.words c.first_change_at-next.new.w in
    let all : AllAlong words (change_in n) (change_told n) [] c.first_change_at-next.result =
    along_begins words (change_in n) (change_told n) (not_told n) (header_skips n) c.first_change_at-next.result
    (λ d b log i.
    let moved = subst (λ w. Image d b log (g.W.Words.words w)) c.first_change_at-next.ensures.same i in
    let e = entry_here _ c.args.entry c.requires.entry d b log moved in
    c.first_change_at-next.ensures.is d b log e.0 moved e.1 ∙ ap (λ k. first_place (change_in k) (rows_of d b log)) (sym (c.requires.number d b log e.0 (parent_image d b log _ moved) e.1))) in
    (refl, subst (λ xs. AllAlong words (change_in n) (change_told n) xs c.first_change_at-next.result) (sym {A = List Changed} c.new-list.ensures.items) all)

pub changed-pair-requires : goal.changed-pair-requires
changed-pair-requires g c =
    let n : ℕ = c.args.n in
    let words : List ℕ = g.W.Words.words c.first_change_at-next.new.w in
    let r = c.requires.entry in
    let all : AllAlong words (change_in n) (change_told n) c.loop-next.list.items (Some c.in-Some.change) = subst (AllAlong words (change_in n) (change_told n) c.loop-next.list.items) c.in-Some.is c.loop-next.invariant.1 in
    let i = subst (λ w. Image r.dataset r.base r.log (g.W.Words.words w)) (sym c.first_change_at-next.ensures.same) r.image in
    let a = along_at words (change_in n) (change_told n) (not_told n) c.loop-next.list.items c.in-Some.change all r.dataset r.base r.log i in
    let h = change_at r.dataset r.base r.log n c.in-Some.change a.0 a.1 a.2 in
    record { change = (r.dataset, r.base, r.log, n, h.0, subst (λ w. Image r.dataset r.base r.log (g.W.Words.words w)) (sym c.loop-next.invariant.0) i, h.1) }

pub next_change-next-requires : goal.next_change-next-requires
next_change-next-requires g c =
    let n : ℕ = c.args.n in
    let words : List ℕ = g.W.Words.words c.first_change_at-next.new.w in
    let r = c.requires.entry in
    let all : AllAlong words (change_in n) (change_told n) c.loop-next.list.items (Some c.in-Some.change) = subst (AllAlong words (change_in n) (change_told n) c.loop-next.list.items) c.in-Some.is c.loop-next.invariant.1 in
    let i = subst (λ w. Image r.dataset r.base r.log (g.W.Words.words w)) (sym c.first_change_at-next.ensures.same) r.image in
    let a = along_at words (change_in n) (change_told n) (not_told n) c.loop-next.list.items c.in-Some.change all r.dataset r.base r.log i in
    let h = change_at r.dataset r.base r.log n c.in-Some.change a.0 a.1 a.2 in
    record { change = (r.dataset, r.base, r.log, n, h.0, subst (λ w. Image r.dataset r.base r.log (g.W.Words.words w)) (sym (c.changed-pair.ensures.same ∙ c.loop-next.invariant.0)) i, h.1) }

pub loop-next-smaller : goal.loop-next-smaller
loop-next-smaller g c =
    let n : ℕ = c.args.n in
    let words : List ℕ = g.W.Words.words c.first_change_at-next.new.w in
    let r = c.requires.entry in
    let all : AllAlong words (change_in n) (change_told n) c.loop-next.list.items (Some c.in-Some.change) = subst (AllAlong words (change_in n) (change_told n) c.loop-next.list.items) c.in-Some.is c.loop-next.invariant.1 in
    let i = subst (λ w. Image r.dataset r.base r.log (g.W.Words.words w)) (sym c.first_change_at-next.ensures.same) r.image in
    let next : AllNext words (change_in n) c.in-Some.change c.next_change-next.result = λ d b log row i h t.
    (let x = change_at d b log n c.in-Some.change row h t in
    c.next_change-next.ensures.is d b log n x.0 (subst (λ w. Image d b log (g.W.Words.words w)) (sym (c.changed-pair.ensures.same ∙ c.loop-next.invariant.0)) i) x.1) in
    subst (λ o. steps_left (length words) c.next_change-next.result < steps_left (length words) o) (sym c.in-Some.is)
    (along_falls words (change_in n) (change_told n) (not_told n) c.loop-next.list.items c.in-Some.change all c.next_change-next.result next r.dataset r.base r.log i)

pub loop-next-preserved : goal.loop-next-preserved
loop-next-preserved g c =
    let n : ℕ = c.args.n in
    let words : List ℕ = g.W.Words.words c.first_change_at-next.new.w in
    let all : AllAlong words (change_in n) (change_told n) c.loop-next.list.items (Some c.in-Some.change) = subst (AllAlong words (change_in n) (change_told n) c.loop-next.list.items) c.in-Some.is c.loop-next.invariant.1 in
    let next : AllNext words (change_in n) c.in-Some.change c.next_change-next.result = λ d b log row i h t.
    (let x = change_at d b log n c.in-Some.change row h t in
    c.next_change-next.ensures.is d b log n x.0 (subst (λ w. Image d b log (g.W.Words.words w)) (sym (c.changed-pair.ensures.same ∙ c.loop-next.invariant.0)) i) x.1) in
    let pick : AllPick words (change_in n) (change_told n) c.in-Some.change (Some c.changed-pair.result) = λ d b log row i h t.
    (let x = change_at d b log n c.in-Some.change row h t in
    let k : c.changed-pair.result ≡ x.0 = c.changed-pair.ensures.is d b log n x.0 (subst (λ w. Image d b log (g.W.Words.words w)) (sym c.loop-next.invariant.0) i) x.1 in
    let m : change_told n row ≡ Some x.0 = x.2 in
    subst (λ y. change_told n row ≡ Some y) (sym {A = Changed} k) m) in
    let more : AllAlong words (change_in n) (change_told n) (c.loop-next.list.items ++ c.changed-pair.result ∷ []) c.next_change-next.result =
    along_steps words (change_in n) (change_told n) (not_told n) c.loop-next.list.items c.in-Some.change all c.next_change-next.result next (Some c.changed-pair.result) pick in (
      c.next_change-next.ensures.same ∙ (c.changed-pair.ensures.same ∙ c.loop-next.invariant.0),
      subst (λ xs. AllAlong words (change_in n) (change_told n) xs c.next_change-next.result) (sym {A = List Changed} c.in-Ok.ensures.items) more,
    )

pub returns-clause-is : goal.returns-clause-is
returns-clause-is g c = λ d b log e i h.
    let n : ℕ = c.args.n in
    let words : List ℕ = g.W.Words.words c.first_change_at-next.new.w in
    let all : AllAlong words (change_in n) (change_told n) c.loop-next.list.items None = subst (AllAlong words (change_in n) (change_told n) c.loop-next.list.items) c.in_default.is c.loop-next.invariant.1 in
    let moved = subst (λ w. Image d b log (g.W.Words.words w)) (sym c.first_change_at-next.ensures.same) i in
    sym (along_ends words (change_in n) (change_told n) (not_told n) c.loop-next.list.items all d b log moved)
    ∙ of_log d b n (change_told n) (λ x. x.changed) (change_picks n) log e i.legal (number_held d b log i.legal c.args.entry n e h (c.requires.number d b log e (parent_image d b log _ i) h))
