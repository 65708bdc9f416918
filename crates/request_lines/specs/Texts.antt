-- The texts of replies and of log lines. The keys of each object ascend.
use Rattle.std.specs.Prelude.{ℕ, true, List, [], ◌∷◌, map, codes, decimal, Option, Some, None}
use Rattle.op_model.specs.declared.request.AskedPair.{AskedPair}
use Rattle.op_model.specs.declared.request.Edit.{Edit}
use Rattle.op_model.specs.declared.request.Edit.TheVariants as edit
use Rattle.op_model.specs.declared.entry.Asked.{Asked}
use Rattle.op_model.specs.declared.entry.Asked.TheVariants as asked
use Rattle.op_model.specs.declared.entry.Entry.{Entry}
use Rattle.op_model.specs.declared.entry.Shown.{Shown}
use Rattle.op_model.specs.declared.reply.Reply.{Reply}
use Rattle.op_model.specs.declared.reply.Reply.TheVariants as reply
use Rattle.request_lines.specs.Json.{object, array, line, member, quoted, truth, id_text}
use Rattle.request_lines.specs.Items.{pair_text, asked_pair_text, changed_text, carry_text, summary_text}
use Rattle.request_lines.specs.Refused.{bare, refused_text, bad_line_text}

-- a list of ids
abbrev pub ids_text : List ℕ → List ℕ
ids_text ids = array (map id_text ids)

-- "ok":true
abbrev pub is_ok : List ℕ
is_ok = member (codes "ok") (truth true)

-- an accepted edit: a split shows its cut
unfoldable pub edited_text : ℕ → ℕ → List ℕ → List ℕ → Option Shown → ℕ → List ℕ
edited_text op at retired made None seen =
    line (member (codes "at") (decimal at) ∷ member (codes "made") (ids_text made) ∷ is_ok ∷ member (codes "op") (decimal op)
    ∷ member (codes "retired") (ids_text retired) ∷ member (codes "seen") (decimal seen) ∷ [])
edited_text op at retired made (Some shown) seen =
    line (member (codes "at") (decimal at) ∷ member (codes "cut") (array (map pair_text shown.cut)) ∷ member (codes "flow") (array (map carry_text shown.flow))
    ∷ member (codes "made") (ids_text made) ∷ is_ok ∷ member (codes "op") (decimal op)
    ∷ member (codes "retired") (ids_text retired) ∷ member (codes "seen") (decimal seen) ∷ member (codes "total") (decimal shown.total) ∷ [])

unfoldable pub text_of_reply : Reply → List ℕ
text_of_reply (reply.Root root seen) = line (is_ok ∷ member (codes "root") (id_text root) ∷ member (codes "seen") (decimal seen) ∷ [])
text_of_reply (reply.Path nodes seen) = line (is_ok ∷ member (codes "path") (ids_text nodes) ∷ member (codes "seen") (decimal seen) ∷ [])
text_of_reply (reply.Leaves leaves seen) = line (member (codes "leaves") (ids_text leaves) ∷ is_ok ∷ member (codes "seen") (decimal seen) ∷ [])
text_of_reply (reply.Changes ops seen) = line (member (codes "changes") (array (map summary_text ops)) ∷ is_ok ∷ member (codes "seen") (decimal seen) ∷ [])
text_of_reply (reply.Edited op at retired made shown seen) = edited_text op at retired made shown seen
text_of_reply (reply.Refused refusal seen) = refused_text refusal seen
text_of_reply (reply.BadLine error) = bad_line_text error
text_of_reply reply.NoMemory = bare (codes "NoMemory")

-- a merge of one pair names its ends, any other lists its pairs
unfoldable pub merge_text : List AskedPair → List ℕ
merge_text [] = object (member (codes "do") (quoted (codes "merge")) ∷ member (codes "pairs") (array []) ∷ [])
merge_text (p ∷ []) = object (member (codes "a") (id_text p.a) ∷ member (codes "b") (id_text p.b) ∷ member (codes "do") (quoted (codes "merge")) ∷ [])
merge_text (p ∷ q ∷ pairs) = object (member (codes "do") (quoted (codes "merge")) ∷ member (codes "pairs") (array (map asked_pair_text (p ∷ q ∷ pairs))) ∷ [])

unfoldable pub edit_text : Edit → List ℕ
edit_text (edit.Merge pairs) = merge_text pairs
edit_text (edit.Split sources sinks) =
    object (member (codes "do") (quoted (codes "split")) ∷ member (codes "sinks") (ids_text sinks) ∷ member (codes "sources") (ids_text sources) ∷ [])
edit_text (edit.Undo op) = object (member (codes "do") (quoted (codes "undo")) ∷ member (codes "op") (decimal op) ∷ [])
edit_text (edit.Redo op) = object (member (codes "do") (quoted (codes "redo")) ∷ member (codes "op") (decimal op) ∷ [])

unfoldable pub asked_text : Asked → List ℕ
asked_text asked.Ingest = object (member (codes "do") (quoted (codes "ingest")) ∷ [])
asked_text (asked.Edit edit) = edit_text edit

-- a line of the operation log
unfoldable pub text_of_entry : Entry → List ℕ
text_of_entry e =
    line (member (codes "at") (decimal e.at) ∷ member (codes "changed") (array (map changed_text e.changed)) ∷ member (codes "client") (decimal e.client)
    ∷ member (codes "line") (decimal e.line) ∷ member (codes "made") (ids_text e.made) ∷ member (codes "op") (decimal e.number)
    ∷ member (codes "request") (asked_text e.asked) ∷ member (codes "retired") (ids_text e.retired) ∷ [])
