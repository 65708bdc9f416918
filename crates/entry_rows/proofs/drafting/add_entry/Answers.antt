use Rattle.std.proofs.Common.{rules, ◌≡◌, ◌<◌, ◌∙◌, sym, subst, ◌++◌, length, map}
use Rattle.record_rows.specs.Rows.{ItemRow, ChangeRow}
use Rattle.grown_rows.proofs.FillLemmas.{place_is}
use Rattle.entry_rows.specs.States.{AreItems}
use Rattle.entry_rows.proofs.Behind.{retired_within}
use Rattle.entry_rows.proofs.Phases.{changes_given, no_changes_given, changed_so, items_found, changes_found, before_found, none_behind, retired_given}
use Rattle.entry_rows.proofs.drafting.add_entry.Goals as goal

pub put_changes-requires-clause-state : goal.put_changes-requires-clause-state
put_changes-requires-clause-state c =
    let (old, more, e, is, growth, rest) = c.requires.listed in
    let l = c.args.lists.now in (
      old,
      more ++ map ItemRow is,
      c.in_ok-put_items.ensures.state old more e.number is growth rest.no_items (subst (λ xs. AreItems e.number xs is) (sym c.deref.ensures.value) rest.items),
      no_changes_given old more e is l growth.headed rest,
      changes_given old more e is l growth.headed rest c.deref-2.result.now c.deref-2.ensures.value,
    )

pub push_entry-requires-clause-within : goal.push_entry-requires-clause-within
push_entry-requires-clause-within c =
    let (old, more, e, is, growth, rest) = c.requires.listed in
    let l = c.args.lists.now in
    let one = c.in_ok-put_items.ensures.state old more e.number is growth rest.no_items (subst (λ xs. AreItems e.number xs is) (sym c.deref.ensures.value) rest.items) in
    let two = changed_so old more e is l growth.headed rest c.put_changes.new.growth c.deref-2.result.now c.deref-2.ensures.value
    (c.in_ok-put_changes.ensures.state old (more ++ map ItemRow is) one (no_changes_given old more e is l growth.headed rest) (changes_given old more e is l growth.headed rest c.deref-2.result.now c.deref-2.ensures.value)) in
    retired_within e old ((more ++ map ItemRow is) ++ map (ChangeRow e.number) e.changed) c.put_changes.new.growth c.deref-3.result.now two (retired_given old more e is l growth.headed rest c.deref-3.result.now c.deref-3.ensures.value)

pub returns-clause-pushed : goal.returns-clause-pushed
returns-clause-pushed c old more e is growth rest =
    let l = c.args.lists.now in
    let one = c.in_ok-put_items.ensures.state old more e.number is growth rest.no_items (subst (λ xs. AreItems e.number xs is) (sym c.deref.ensures.value) rest.items) in
    let two = changed_so old more e is l growth.headed rest c.put_changes.new.growth c.deref-2.result.now c.deref-2.ensures.value
    (c.in_ok-put_changes.ensures.state old (more ++ map ItemRow is) one (no_changes_given old more e is l growth.headed rest) (changes_given old more e is l growth.headed rest c.deref-2.result.now c.deref-2.ensures.value)) in
    let m : c.len.result ≡ length l.items.items = search rules in
    let n : c.len-2.result ≡ length l.changes.items = search rules in
    let x = c.new_entry-entry.ensures in
    let items = items_found old more e is l growth.headed rest c.new_entry-entry.result.items
    (λ z. x.items ∙ c.first_of-first_item.ensures.none (m ∙ z)) (λ k. x.items ∙ (c.first_of-first_item.ensures.some (subst (λ a. 0 < a) (sym m) k) ∙ place_is old more c.args.growth.now growth _ c.next_place-items.ensures.whole)) in
    let changes = changes_found old more e is l growth.headed rest c.new_entry-entry.result.changes
    (λ z. x.changes ∙ c.first_of-first_change.ensures.none (n ∙ z))
    (λ k. x.changes ∙ (c.first_of-first_change.ensures.some (subst (λ a. 0 < a) (sym n) k) ∙ place_is old (more ++ map ItemRow is) c.put_items.new.growth one _ c.next_place-changes.ensures.whole)) in
    c.in_ok-push_entry.ensures.pushed old ((more ++ map ItemRow is) ++ map (ChangeRow e.number) e.changed) e two (x.told e rest.head) items changes
    (before_found old more e is l growth.headed rest ∙ sym x.before) (none_behind old more e is l growth.headed rest)
    (retired_given old more e is l growth.headed rest c.deref-3.result.now c.deref-3.ensures.value)
