use Rattle.std.proofs.Common.{◌≡◌, ◌-◌, ◌++◌, take}
use Rattle.row_words.specs.Drafts.{draft_rows}
use Rattle.thread_tests.proofs.samples.put_links.Given as goal

abbrev pub invariant-loop-link : goal.invariant-loop-link
invariant-loop-link l = l.draft ≡ draft_rows l.fn.draft.tail l.fn.draft.rows (l.fn.draft.links ++ take l.link-index l.links) l.fn.draft.row_room (l.fn.draft.link_room - l.link-index)
