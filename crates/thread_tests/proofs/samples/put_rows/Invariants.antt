use Rattle.std.proofs.Common.{◌≡◌, ◌-◌, ◌++◌, take}
use Rattle.row_words.specs.Drafts.{draft_rows}
use Rattle.thread_tests.proofs.samples.put_rows.Given as goal

abbrev pub invariant-loop-row : goal.invariant-loop-row
invariant-loop-row l = l.draft ≡ draft_rows l.fn.draft.tail (l.fn.draft.rows ++ take l.row-index l.rows) l.fn.draft.links (l.fn.draft.row_room - l.row-index) l.fn.draft.link_room
