-- The words of an entry's record, from what is told of it.
use Rattle.std.proofs.Common.{◌≡◌, ℕ, ◌+◌, ◌*◌, ◌^◌, List, [], ◌∷◌, ◌++◌, length, refl, ◌∙◌}
use Rattle.op_model.specs.declared.entry.Entry.{Entry}
use Rattle.record_rows.specs.Rows.{Row, EntryRow}
use Rattle.record_rows.specs.Chains.{change_in, item_in, entry_before}
use Rattle.record_rows.specs.Words.{place_from, row_words}
use Rattle.grown_rows.specs.declared.entries.NewEntry.{NewEntry}
use Rattle.grown_rows.specs.Entries.{IsNewEntry}
use Rattle.grown_rows.proofs.EntryLemmas.{entry_words}

abbrev pub told_words : NewEntry → List ℕ
told_words x = (9 + x.kind * 2 ^ 8 + x.names * 2 ^ 32) ∷ x.at ∷ (x.client * 2 ^ 32 + x.line) ∷ x.number ∷ x.items ∷ x.changes ∷ x.before ∷ 0 ∷ []

pub entry_told : (rows : List Row) (e : Entry) (x : NewEntry) → IsNewEntry e x
    → place_from (item_in e.number) 0 rows ≡ x.items → place_from (change_in e.number) 0 rows ≡ x.changes → place_from (entry_before e.number) 0 rows ≡ x.before
    → row_words (rows ++ EntryRow e ∷ []) (length rows) (EntryRow e) [] ≡ told_words x
entry_told rows e x n i c b = entry_words rows e ∙ rw (i, c, b, n.kind_is, n.names_are, n.at, n.client, n.line, n.number) refl
