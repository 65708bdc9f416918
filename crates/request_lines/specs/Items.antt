-- The texts of what stands in lists.
use Rattle.std.specs.Prelude.{ℕ, List, [], ◌∷◌, codes, decimal}
use Rattle.op_model.specs.declared.base.Pair.{Pair}
use Rattle.op_model.specs.declared.request.AskedPair.{AskedPair}
use Rattle.op_model.specs.declared.entry.Changed.{Changed}
use Rattle.op_model.specs.declared.entry.Carry.{Carry}
use Rattle.op_model.specs.declared.reply.Summary.{Summary}
use Rattle.op_model.specs.declared.entry.Kind.{Kind}
use Rattle.op_model.specs.declared.entry.Kind.TheVariants as kind
use Rattle.request_lines.specs.Json.{object, array, member, quoted, truth, id_text}

-- ["a","b"]
unfoldable pub pair_text : Pair → List ℕ
pair_text p = array (id_text p.a ∷ id_text p.b ∷ [])

unfoldable pub asked_pair_text : AskedPair → List ℕ
asked_pair_text p = array (id_text p.a ∷ id_text p.b ∷ [])

-- ["a","b",state]
unfoldable pub changed_text : Changed → List ℕ
changed_text c = array (id_text c.pair.a ∷ id_text c.pair.b ∷ truth c.active ∷ [])

-- ["from","to",amount]
unfoldable pub carry_text : Carry → List ℕ
carry_text c = array (id_text c.from ∷ id_text c.to ∷ decimal c.amount ∷ [])

unfoldable pub kind_name : Kind → List ℕ
kind_name kind.Ingest = codes "ingest"
kind_name kind.Merge = codes "merge"
kind_name kind.Split = codes "split"
kind_name kind.Undo = codes "undo"
kind_name kind.Redo = codes "redo"

-- an entry in a list of changes
unfoldable pub summary_text : Summary → List ℕ
summary_text s = object (member (codes "at") (decimal s.at) ∷ member (codes "do") (quoted (kind_name s.kind)) ∷ member (codes "op") (decimal s.op) ∷ [])
