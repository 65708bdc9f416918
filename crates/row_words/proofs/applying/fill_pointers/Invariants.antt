use Rattle.std.proofs.Common.{◌≡◌, map, take}
use Rattle.pcg_base.specs.WordStores.{word_store}
use Rattle.record_rows.specs.Growth.{stored}
use Rattle.row_words.specs.Drafts.{store_of}
use Rattle.row_words.proofs.applying.fill_pointers.Given as goal

abbrev pub invariant-loop-k : goal.invariant-loop-k
invariant-loop-k l = l.w ≡ word_store (stored (map store_of (take l.k l.draft.links)) l.fn.w.words) l.fn.w.spare
