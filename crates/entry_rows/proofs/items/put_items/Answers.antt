use Rattle.std.proofs.Common.{arith, ◌<◌, ◌∙◌, ap, sym, subst, ◌++◌, ◌∷◌, [], map, take, take_all, append_assoc, length, Some}
use Rattle.record_rows.specs.Rows.{ItemRow}
use Rattle.grown_rows.specs.Aimed.{ItemsEnd}
use Rattle.grown_rows.specs.Growths.{IsGrowth}
use Rattle.entry_rows.proofs.NodeSteps.{got}
use Rattle.entry_rows.proofs.ItemSteps.{items_take, got_item, item_within, items_end}
use Rattle.entry_rows.proofs.items.put_items.Goals as goal

pub push_item-requires-clause-within : goal.push_item-requires-clause-within
push_item-requires-clause-within c =
    let (old, more, n, is, st, none, are) = c.requires.state in
    let i = c.loop-item.invariant.0 old more n is st none are in
    item_within old _ c.loop-item.growth n c.loop-item.before i.0 i.1

pub loop-item-preserved : goal.loop-item-preserved
loop-item-preserved c =
    let i = c.loop-item.invariant in
    let p = c.in_ok-spot.ensures in
    let l = i.1 in
    let m = p.length in (
      λ old more n is st none are.
          let s = i.0 old more n is st none are in
          let k : c.loop-item.item-index < length is = (let e = are.count in let t = c.loop-item-test.true in omega arith) in
          let y = got is c.loop-item.item-index k in
          let a = are.each c.loop-item.item-index c.item-item.result y.0 (got_item c.args.items.now c.loop-item.item-index c.item-item.result c.loop-item-test.true c.item-item.is) y.1 in
          let whole = append_assoc more (map ItemRow (take c.loop-item.item-index is)) (ItemRow y.0 ∷ []) ∙ ap (λ rows. more ++ rows) (sym (items_take is c.loop-item.item-index y.0 y.1)) in (
            subst (λ rows. IsGrowth old rows c.push_item.new.growth) whole (p.pushed old _ y.0 s.0 a.0 a.1 (subst (λ e. ItemsEnd e (old ++ (more ++ map ItemRow (take c.loop-item.item-index is))) c.loop-item.before) (sym a.2) s.1)),
            subst (λ rows. ItemsEnd n (old ++ rows) (Some c.in_ok-spot.spot)) whole (items_end old _ c.loop-item.growth n c.in_ok-spot.spot y.0 s.0 a.2 (p.place old _ s.0)),
          ),
      omega (arith, l, m),
      p.tail ∙ i.2,
    )

pub returns-clause-state : goal.returns-clause-state
returns-clause-state c old more n is st none are =
    subst (λ xs. IsGrowth old (more ++ map ItemRow xs) c.loop-item.growth) (take_all c.loop-item.item-index is (let e = are.count in let f = c.loop-item-test.false in omega arith))
    (c.loop-item.invariant.0 old more n is st none are).0
