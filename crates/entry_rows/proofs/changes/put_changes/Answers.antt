use Rattle.std.proofs.Common.{rules, arith, ◌∙◌, ap, sym, subst, ◌++◌, ◌∷◌, [], List, take, append_assoc, append-nil, Some, None}
use Rattle.record_rows.specs.Rows.{ChangeRow}
use Rattle.grown_rows.specs.Aimed.{ChangesEnd}
use Rattle.grown_rows.specs.Growths.{IsGrowth}
use Rattle.base_rows.proofs.Passing.{map_more, take_whole}
use Rattle.entry_rows.specs.declared.changes.EntryChange.{EntryChange}
use Rattle.entry_rows.proofs.ChangeSteps.{rows_by, got_change, edge_found, ends_there, tail_there, change_within, changes_end_here}
use Rattle.entry_rows.proofs.changes.put_changes.Goals as goal

pub loop-change-init : goal.loop-change-init
loop-change-init c = (
  λ old more is none are. (
    subst (λ rows. IsGrowth old rows c.args.growth.now) (sym (append-nil more)) is,
    subst (λ rows. ChangesEnd c.args.entry (old ++ rows) None) (sym (append-nil more)) none,
  ),
  omega arith,
  search rules,
)

pub push_change-requires-clause-places : goal.push_change-requires-clause-places
push_change-requires-clause-places c =
    let n = c.loop-change.invariant.1 in
    let t = c.loop-change.invariant.2 in
    let l = c.loop-change-test.true in
    let r = c.requires.places in
    omega (arith, n, t, l, r)

pub push_change-requires-clause-last : goal.push_change-requires-clause-last
push_change-requires-clause-last c =
    let (old, more, is, none, are) = c.requires.state in
    let i = c.loop-change.invariant.0 old more is none are in
    let h = got_change c.args.changes.now c.loop-change.change-index c.change-item.result c.loop-change-test.true c.change-item.is in
    tail_there old more c.args.entry c.loop-change.change-index c.args.changes.now c.change-item.result is.headed are h c.loop-change.growth i.0

pub push_change-requires-clause-within : goal.push_change-requires-clause-within
push_change-requires-clause-within c =
    let (old, more, is, none, are) = c.requires.state in
    let i = c.loop-change.invariant.0 old more is none are in
    change_within old _ c.loop-change.growth c.args.entry c.loop-change.before i.0 i.1

pub loop-change-preserved : goal.loop-change-preserved
loop-change-preserved c =
    let i = c.loop-change.invariant in
    let p = c.in_ok-spot.ensures in
    let l = i.1 in
    let m = p.length in (
      λ old more is none are.
          let s = i.0 old more is none are in
          let x : EntryChange = c.change-item.result in
          let xs : List EntryChange = c.args.changes.now in
          let k = c.loop-change.change-index in
          let n = c.args.entry in
          let h = got_change xs k x c.loop-change-test.true c.change-item.is in
          let whole = append_assoc more (rows_by n (take k xs)) (ChangeRow n x.changed ∷ [])
          ∙ ap (λ rows. more ++ rows) (sym (map_more (λ (y : EntryChange). ChangeRow n y.changed) xs k x c.loop-change-test.true c.change-item.is)) in (
            subst (λ rows. IsGrowth old rows c.push_change.new.growth) whole
                (p.pushed old _ s.0 (edge_found old more n k xs x is.headed are h) (ends_there old more n k xs x is.headed are h) s.1),
            subst (λ rows. ChangesEnd n (old ++ rows) (Some c.in_ok-spot.spot)) whole (changes_end_here old _ c.loop-change.growth n c.in_ok-spot.spot x s.0 (p.place old _ s.0)),
          ),
      omega (arith, l, m),
      p.tail ∙ i.2,
    )

pub returns-clause-state : goal.returns-clause-state
returns-clause-state c old more is none are =
    subst (λ xs. IsGrowth old (more ++ rows_by c.args.entry xs) c.loop-change.growth) (take_whole c.args.changes.now c.loop-change.change-index c.loop-change-test.false)
    (c.loop-change.invariant.0 old more is none are).0
