use Rattle.std.proofs.Common.{◌≡◌, ℕ, ◌<◌, ◌++◌, [], ◌∷◌, List, Some, None, arith, sym, ◌∙◌, ap, subst, length, map}
use Rattle.op_model.specs.declared.entry.Changed.{Changed}
use Rattle.graph_model.specs.Lists.{has}
use Rattle.op_model.specs.Labels.{root}
use Rattle.op_model.specs.Laws.{IsKnown}
use Rattle.op_model.specs.Operations.{ends}
use Rattle.record_rows.specs.Chains.{change_in}
use Rattle.record_rows.specs.Readings.{Image}
use Rattle.record_rows.proofs.ImageFacts.{parent_image}
use Rattle.record_rows.proofs.WalkLemmas.{steps_left}
use Rattle.log_rows.proofs.ChangeWords.{change_told, not_told, header_skips, change_at, change_picks}
use Rattle.log_rows.proofs.ChainWalk.{AllAlong, AllPick, AllNext, along_begins, along_steps, along_falls, along_ends}
use Rattle.log_rows.proofs.EntryParts.{of_log}
use Rattle.log_rows.proofs.WalkBack.{entry_there, same_count}
use Rattle.op_model.specs.Locks.{lock_of}
use Rattle.undo_redo.proofs.Walking.{standing, standing_known, locks_more, changed_of}
use Rattle.root_masks.proofs.Asked.{no_bits}
use Rattle.undo_redo.proofs.planning.mask_of.Goals as goal

pub loop-next-init : goal.loop-next-init
unfolding ends
loop-next-init g c =
    let n : ℕ = c.args.n in
    let words : List ℕ = g.W.Words.words c.args.w.now in
    let all : AllAlong words (change_in n) (change_told n) [] c.first_change-next.result =
    along_begins words (change_in n) (change_told n) (not_told n) (header_skips n) c.first_change-next.result (λ d b log i. c.first_change-next.ensures.is d b log i) in
    record { same = c.first_change-next.ensures.same; walked = ([], all, λ d b log i k. no_bits k) }

pub changed-pair-requires : goal.changed-pair-requires
changed-pair-requires g c =
    let n : ℕ = c.args.n in
    let words : List ℕ = g.W.Words.words c.args.w.now in
    let r = c.requires.entry in
    let (found, all, held) = c.loop-next.invariant.walked in
    let here : AllAlong words (change_in n) (change_told n) found (Some c.in-Some.change) = subst (AllAlong words (change_in n) (change_told n) found) c.in-Some.is all in
    let e = entry_there r.0 r.1 r.2 n r.3.legal r.4 in
    let s = standing r.0 r.1 r.2 words r.3 n c.in-Some.change found (here r.0 r.1 r.2 r.3) e.0 e.1 in
    record { change = (r.0, r.1, r.2, n, s.0, subst (λ w. Image r.0 r.1 r.2 (g.W.Words.words w)) (sym c.loop-next.invariant.same) r.3, s.1) }

pub with_ends-mask-requires : goal.with_ends-mask-requires
with_ends-mask-requires g c =
    let n : ℕ = c.args.n in
    let words : List ℕ = g.W.Words.words c.args.w.now in
    let r = c.requires.entry in
    let (found, all, held) = c.loop-next.invariant.walked in
    let here : AllAlong words (change_in n) (change_told n) found (Some c.in-Some.change) = subst (AllAlong words (change_in n) (change_told n) found) c.in-Some.is all in
    let e = entry_there r.0 r.1 r.2 n r.3.legal r.4 in
    let s = standing r.0 r.1 r.2 words r.3 n c.in-Some.change found (here r.0 r.1 r.2 r.3) e.0 e.1 in
    let i = subst (λ w. Image r.0 r.1 r.2 (g.W.Words.words w)) (sym c.loop-next.invariant.same) r.3 in
    let k : c.changed-pair.result ≡ s.0 = c.changed-pair.ensures.is r.0 r.1 r.2 n s.0 i s.1 in
    let known = subst (λ (x : Changed). IsKnown r.1 x.pair) (sym k) (standing_known r.0 r.1 r.2 words r.3 n c.in-Some.change found (here r.0 r.1 r.2 r.3) e.0 e.1) in
    record { known = (r.0, r.1, r.2, parent_image r.0 r.1 r.2 _ (subst (λ w. Image r.0 r.1 r.2 (g.W.Words.words w)) (sym (c.changed-pair.ensures.same ∙ c.loop-next.invariant.same)) r.3), (known.0, known.1)) }

pub next_change-next-requires : goal.next_change-next-requires
next_change-next-requires g c =
    let n : ℕ = c.args.n in
    let words : List ℕ = g.W.Words.words c.args.w.now in
    let r = c.requires.entry in
    let (found, all, held) = c.loop-next.invariant.walked in
    let here : AllAlong words (change_in n) (change_told n) found (Some c.in-Some.change) = subst (AllAlong words (change_in n) (change_told n) found) c.in-Some.is all in
    let e = entry_there r.0 r.1 r.2 n r.3.legal r.4 in
    let s = standing r.0 r.1 r.2 words r.3 n c.in-Some.change found (here r.0 r.1 r.2 r.3) e.0 e.1 in
    record { change = (r.0, r.1, r.2, n, s.0, subst (λ w. Image r.0 r.1 r.2 (g.W.Words.words w)) (sym (c.with_ends-mask.ensures.same ∙ (c.changed-pair.ensures.same ∙ c.loop-next.invariant.same))) r.3, s.1) }

pub loop-next-smaller : goal.loop-next-smaller
loop-next-smaller g c =
    let n : ℕ = c.args.n in
    let words : List ℕ = g.W.Words.words c.args.w.now in
    let r = c.requires.entry in
    let (found, all, held) = c.loop-next.invariant.walked in
    let here : AllAlong words (change_in n) (change_told n) found (Some c.in-Some.change) = subst (AllAlong words (change_in n) (change_told n) found) c.in-Some.is all in
    let e = entry_there r.0 r.1 r.2 n r.3.legal r.4 in
    let s = standing r.0 r.1 r.2 words r.3 n c.in-Some.change found (here r.0 r.1 r.2 r.3) e.0 e.1 in
    let next : AllNext words (change_in n) c.in-Some.change c.next_change-next.result = λ d b log row i h t.
    (let x = change_at d b log n c.in-Some.change row h t in
    c.next_change-next.ensures.is d b log n x.0 (subst (λ w. Image d b log (g.W.Words.words w)) (sym (c.with_ends-mask.ensures.same ∙ (c.changed-pair.ensures.same ∙ c.loop-next.invariant.same))) i) x.1) in
    subst (λ o. steps_left (length words) c.next_change-next.result < steps_left (length words) o) (sym c.in-Some.is)
    (along_falls words (change_in n) (change_told n) (not_told n) found c.in-Some.change here c.next_change-next.result next r.0 r.1 r.2 r.3)

pub loop-next-preserved : goal.loop-next-preserved
loop-next-preserved g c =
    let n : ℕ = c.args.n in
    let words : List ℕ = g.W.Words.words c.args.w.now in
    let r = c.requires.entry in
    let (found, all, held) = c.loop-next.invariant.walked in
    let here : AllAlong words (change_in n) (change_told n) found (Some c.in-Some.change) = subst (AllAlong words (change_in n) (change_told n) found) c.in-Some.is all in
    let e = entry_there r.0 r.1 r.2 n r.3.legal r.4 in
    let s = standing r.0 r.1 r.2 words r.3 n c.in-Some.change found (here r.0 r.1 r.2 r.3) e.0 e.1 in
    let next : AllNext words (change_in n) c.in-Some.change c.next_change-next.result = λ d b log row i h t.
    (let x = change_at d b log n c.in-Some.change row h t in
    c.next_change-next.ensures.is d b log n x.0 (subst (λ w. Image d b log (g.W.Words.words w)) (sym (c.with_ends-mask.ensures.same ∙ (c.changed-pair.ensures.same ∙ c.loop-next.invariant.same))) i) x.1) in
    let pick : AllPick words (change_in n) (change_told n) c.in-Some.change (Some c.changed-pair.result) = λ d b log row i h t.
    (let x = change_at d b log n c.in-Some.change row h t in
    let k : c.changed-pair.result ≡ x.0 = c.changed-pair.ensures.is d b log n x.0 (subst (λ w. Image d b log (g.W.Words.words w)) (sym c.loop-next.invariant.same) i) x.1 in
    let m : change_told n row ≡ Some x.0 = x.2 in
    subst (λ y. change_told n row ≡ Some y) (sym {A = Changed} k) m) in
    let more : AllAlong words (change_in n) (change_told n) (found ++ c.changed-pair.result ∷ []) c.next_change-next.result =
    along_steps words (change_in n) (change_told n) (not_told n) found c.in-Some.change here c.next_change-next.result next (Some c.changed-pair.result) pick in
    record {
      same = c.next_change-next.ensures.same ∙ (c.with_ends-mask.ensures.same ∙ (c.changed-pair.ensures.same ∙ c.loop-next.invariant.same));
      walked = (
        found ++ c.changed-pair.result ∷ [],
        more,
        λ d b log i l.
            let count = same_count r.0 r.1 r.2 d b log words (parent_image r.0 r.1 r.2 words r.3) (parent_image d b log words i) in
            let low : n < length log = (let q = r.4 in omega (arith, count, q)) in
            let f = entry_there d b log n i.legal low in
            let t = standing d b log words i n c.in-Some.change found (here d b log i) f.0 f.1 in
            let k : c.changed-pair.result ≡ t.0 = c.changed-pair.ensures.is d b log n t.0 (subst (λ w. Image d b log (g.W.Words.words w)) (sym c.loop-next.invariant.same) i) t.1 in
            let known = subst (λ (x : Changed). IsKnown b x.pair) (sym k) (standing_known d b log words i n c.in-Some.change found (here d b log i) f.0 f.1) in
            locks_more d b log found c.changed-pair.result c.loop-next.mask c.with_ends-mask.result l (held d b log i l)
            (c.with_ends-mask.ensures.is d b log (parent_image d b log _ (subst (λ w. Image d b log (g.W.Words.words w)) (sym (c.changed-pair.ensures.same ∙ c.loop-next.invariant.same)) i)) known.0 known.1 l),
      );
    }

pub returns-clause-is : goal.returns-clause-is
returns-clause-is g c = λ d b log i low l.
    let n : ℕ = c.args.n in
    let words : List ℕ = g.W.Words.words c.args.w.now in
    let (found, all, held) = c.loop-next.invariant.walked in
    let none : AllAlong words (change_in n) (change_told n) found None = subst (AllAlong words (change_in n) (change_told n) found) c.in_default.is all in
    let e = entry_there d b log n i.legal low in
    let whole = sym (of_log d b n (change_told n) (λ x. x.changed) (change_picks n) log e.0 i.legal e.1) ∙ along_ends words (change_in n) (change_told n) (not_told n) found none d b log i in
    held d b log i l ∙ ap (λ (cs : List Changed). has (map (lock_of d.layout) (map (root d b log) (ends cs))) l) (sym (changed_of log n e.0 e.1 ∙ whole))
