use Rattle.std.proofs.Common.{◌≡◌, ◌-◌, ◌*◌, ◌++◌, take}
use Rattle.std.specs.List.{concat}
use Rattle.pcg_base.specs.WordStores.{word_store}
use Rattle.row_words.proofs.applying.put_rows.Given as goal

abbrev pub invariant-loop-k : goal.invariant-loop-k
invariant-loop-k l = l.w ≡ word_store (l.fn.w.words ++ concat (take l.k l.draft.rows)) (l.fn.w.spare - 8 * l.k)
