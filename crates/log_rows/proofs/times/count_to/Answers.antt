use Rattle.std.proofs.Common.{◌≡◌, ℕ, List, length, sym, ◌∙◌, subst, arith}
use Rattle.op_model.specs.declared.base.Dataset.{Dataset}
use Rattle.op_model.specs.declared.base.Base.{Base}
use Rattle.op_model.specs.declared.entry.Entry.{Entry}
use Rattle.record_rows.specs.LogRows.{rows_of}
use Rattle.record_rows.specs.Readings.{ParentImage}
use Rattle.record_rows.specs.Ascending.{kind_at, EntriesAscend}
use Rattle.record_rows.proofs.EntryRecords.{more_rows}
use Rattle.log_rows.specs.Entries.{AtEntry}
use Rattle.log_rows.proofs.Halves.{NoneOwn}
use Rattle.log_rows.proofs.Seeks.{ascends}
use Rattle.log_rows.proofs.TimeLemmas.{shorter}
use Rattle.log_rows.proofs.TimePlaces.{AllAt, AllNumber, parts_first, parts_low, parts_high, parts_met, before_all, at_own, at_first}
use Rattle.log_rows.proofs.times.count_to.Goals as goal

abbrev Counts : List ℕ → ℕ → Type 0
Counts words count = (d : Dataset) (b : Base) (log : List Entry) → ParentImage d b log words → count ≡ length (rows_of d b log)

pub time-first-requires : goal.time-first-requires
time-first-requires g c =
    let i = c.requires.image in
    record { entry = subst (λ w. AtEntry (g.W.Words.words w) c.entry_spot-start.result) (sym c.entry_spot-start.ensures.same) (at_first i.0 i.1 i.2 _ _ i.3 c.entry_spot-start.ensures.is) }

pub returns-then-t-first-clause-is : goal.returns-then-t-first-clause-is
returns-then-t-first-clause-is g c =
    let times = subst (λ w. AllAt (g.W.Words.words w) c.entry_spot-start.result c.time-first.result) c.entry_spot-start.ensures.same c.time-first.ensures.is in
    before_all _ c.args.t c.entry_spot-start.result c.time-first.result c.entry_spot-start.ensures.is times c.if-t-first.true

pub loop-low-init : goal.loop-low-init
loop-low-init g c =
    let s = c.time-first.ensures.same ∙ c.entry_spot-start.ensures.same in
    let late = c.if-t-first.false in
    let view = c.start.view_is in
    let counts : Counts (g.W.Words.words c.args.w.now) c.count-count.result = λ d b log i. c.count-count.ensures.is d b log (subst (λ w. ParentImage d b log (g.W.Words.words w)) (sym s) i) in
    let times = subst (λ w. AllAt (g.W.Words.words w) c.entry_spot-start.result c.time-first.result) c.entry_spot-start.ensures.same c.time-first.ensures.is in
    (s, parts_first _ c.args.t c.entry_spot-start.result _ c.time-first.result c.count-count.result (omega (arith, view)) c.entry_spot-start.ensures.is times (omega (arith, late)) counts, omega arith)

pub next_own-own-requires-clause-ascend : goal.next_own-own-requires-clause-ascend
next_own-own-requires-clause-ascend g c =
    let i = c.requires.image in
    let s = c.time-first.ensures.same ∙ c.entry_spot-start.ensures.same in
    let count = c.count-count.ensures.is i.0 i.1 i.2 (subst (λ w. ParentImage i.0 i.1 i.2 (g.W.Words.words w)) (sym s) i.3) in
    subst (λ w. EntriesAscend (g.W.Words.words w) c.count-count.result) (sym c.loop-low.invariant.0) (ascends i.0 i.1 i.2 _ i.3 _ count)

pub time-here-requires : goal.time-here-requires
time-here-requires g c =
    let i = c.requires.image in
    let inv = c.loop-low.invariant in
    let own = c.next_own-own in
    let s = c.time-first.ensures.same ∙ c.entry_spot-start.ensures.same in
    let count = c.count-count.ensures.is i.0 i.1 i.2 (subst (λ w. ParentImage i.0 i.1 i.2 (g.W.Words.words w)) (sym s) i.3) in
    let kind = subst (λ w. kind_at (g.W.Words.words w) own.result ≡ 9) inv.0 own.ensures.own in
    record { entry = subst (λ w. AtEntry (g.W.Words.words w) own.result) (sym (own.ensures.same ∙ inv.0)) (at_own i.0 i.1 i.2 _ _ _ i.3 kind own.ensures.next.1 count) }

pub number-found-requires : goal.number-found-requires
number-found-requires g c =
    let i = c.requires.image in
    let inv = c.loop-low.invariant in
    let own = c.next_own-own in
    let s = c.time-first.ensures.same ∙ c.entry_spot-start.ensures.same in
    let count = c.count-count.ensures.is i.0 i.1 i.2 (subst (λ w. ParentImage i.0 i.1 i.2 (g.W.Words.words w)) (sym s) i.3) in
    let kind = subst (λ w. kind_at (g.W.Words.words w) own.result ≡ 9) inv.0 own.ensures.own in
    record { entry = subst (λ w. AtEntry (g.W.Words.words w) own.result) (sym (c.time-here.ensures.same ∙ (own.ensures.same ∙ inv.0))) (at_own i.0 i.1 i.2 _ _ _ i.3 kind own.ensures.next.1 count) }

pub loop-low-preserved-then-here-t : goal.loop-low-preserved-then-here-t
loop-low-preserved-then-here-t g c =
    let inv = c.loop-low.invariant in
    let own = c.next_own-own in
    let s = c.time-first.ensures.same ∙ c.entry_spot-start.ensures.same in
    let counts : Counts (g.W.Words.words c.args.w.now) c.count-count.result = λ d b log i. c.count-count.ensures.is d b log (subst (λ w. ParentImage d b log (g.W.Words.words w)) (sym s) i) in
    let kind = subst (λ w. kind_at (g.W.Words.words w) own.result ≡ 9) inv.0 own.ensures.own in
    let before = own.ensures.same ∙ inv.0 in
    let times = subst (λ w. AllAt (g.W.Words.words w) own.result c.time-here.result) before c.time-here.ensures.is in
    let numbers = subst (λ w. AllNumber (g.W.Words.words w) own.result c.number-found.result) (c.time-here.ensures.same ∙ before) c.number-found.ensures.is in (
      c.number-found.ensures.same ∙ (c.time-here.ensures.same ∙ before),
      parts_low _ c.count-count.result own.result kind own.ensures.next.1 c.args.t c.loop-low.low c.loop-low.high 0 c.loop-low.found c.time-here.result inv.1 counts times c.number-found.result c.if-here-t.true numbers,
      inv.2,
    )

pub loop-low-preserved : goal.loop-low-preserved
loop-low-preserved g c =
    let inv = c.loop-low.invariant in
    let own = c.next_own-own in
    let late = c.if-here-t.false in
    let s = c.time-first.ensures.same ∙ c.entry_spot-start.ensures.same in
    let counts : Counts (g.W.Words.words c.args.w.now) c.count-count.result = λ d b log i. c.count-count.ensures.is d b log (subst (λ w. ParentImage d b log (g.W.Words.words w)) (sym s) i) in
    let middle : ℕ = c.probe-middle.result in
    let kind = subst (λ w. kind_at (g.W.Words.words w) own.result ≡ 9) inv.0 own.ensures.own in
    let none = subst (λ w. NoneOwn (g.W.Words.words w) middle own.result) inv.0 own.ensures.none in
    let before = own.ensures.same ∙ inv.0 in
    let times = subst (λ w. AllAt (g.W.Words.words w) own.result c.time-here.result) before c.time-here.ensures.is in
    let from = own.ensures.next.0 in
    let to = own.ensures.next.1 in (
      c.time-here.ensures.same ∙ before,
      parts_high _ c.count-count.result own.result kind own.ensures.next.1 c.args.t c.loop-low.low c.loop-low.high middle c.loop-low.found c.time-here.result inv.1 counts times (omega (arith, late)) from none,
      omega (arith, from, to),
    )

pub overflow_add-result : goal.overflow_add-result
overflow_add-result g c =
    let i = c.requires.image in
    let s = c.time-first.ensures.same ∙ c.entry_spot-start.ensures.same in
    let count = c.count-count.ensures.is i.0 i.1 i.2 (subst (λ w. ParentImage i.0 i.1 i.2 (g.W.Words.words w)) (sym s) i.3) in
    let m = (c.loop-low.invariant.1 i.0 i.1 i.2 i.3).more in
    let l = shorter i.0 i.1 c.args.t i.2 in
    let r = more_rows i.0 i.1 i.2 in
    let f = (ascends i.0 i.1 i.2 _ i.3 _ count).few in
    omega (arith, m, l, r, f, count)

pub returns-clause-is : goal.returns-clause-is
returns-clause-is g c =
    let late = c.if-t-first.false in
    let done = c.loop-low-test.false in
    let times = subst (λ w. AllAt (g.W.Words.words w) c.entry_spot-start.result c.time-first.result) c.entry_spot-start.ensures.same c.time-first.ensures.is in
    parts_met _ c.args.t c.entry_spot-start.result c.time-first.result c.loop-low.low c.loop-low.high c.loop-low.found c.entry_spot-start.ensures.is times (omega (arith, late)) c.loop-low.invariant.1 (omega (arith, done))
