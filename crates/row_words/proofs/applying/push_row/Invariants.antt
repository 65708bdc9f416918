use Rattle.std.proofs.Common.{◌≡◌, ◌-◌, ◌++◌, take}
use Rattle.pcg_base.specs.WordStores.{word_store}
use Rattle.row_words.proofs.applying.push_row.Given as goal

abbrev pub invariant-loop-word : goal.invariant-loop-word
invariant-loop-word l = l.w ≡ word_store (l.fn.w.words ++ take l.word-index l.fn.row) (l.fn.w.spare - l.word-index)
