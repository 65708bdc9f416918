-- The lines that answer what is refused. The keys of each line ascend.
use Rattle.std.specs.Prelude.{ℕ, List, [], ◌∷◌, codes, decimal, false}
use Rattle.op_model.specs.declared.reply.Refusal.{Refusal}
use Rattle.op_model.specs.declared.reply.Refusal.TheVariants as refusal
use Rattle.op_model.specs.declared.request.FieldName.{FieldName}
use Rattle.op_model.specs.declared.request.FieldName.TheVariants as fields
use Rattle.op_model.specs.declared.request.LineError.{LineError}
use Rattle.op_model.specs.declared.request.LineError.TheVariants as error
use Rattle.request_lines.specs.Json.{line, member, quoted, truth, id_text}

-- "ok":false
abbrev pub not_ok : List ℕ
not_ok = member (codes "ok") (truth false)

-- "refusal":"name"
abbrev pub named : List ℕ → List ℕ
named name = member (codes "refusal") (quoted name)

-- a refusal without fields, at no log
abbrev pub bare : List ℕ → List ℕ
bare name = line (not_ok ∷ named name ∷ [])

-- a refusal without fields, at a log of this length
abbrev pub plain : List ℕ → ℕ → List ℕ
plain name seen = line (not_ok ∷ named name ∷ member (codes "seen") (decimal seen) ∷ [])

-- a refusal with one field, whose key stands before ok
abbrev pub telling : List ℕ → List ℕ → List ℕ → ℕ → List ℕ
telling key value name seen = line (member key value ∷ not_ok ∷ named name ∷ member (codes "seen") (decimal seen) ∷ [])

-- a refusal that names an operation
abbrev pub of_operation : ℕ → List ℕ → ℕ → List ℕ
of_operation op name seen = line (not_ok ∷ member (codes "op") (decimal op) ∷ named name ∷ member (codes "seen") (decimal seen) ∷ [])

-- the answer to a request that is refused at a log of this length
unfoldable pub refused_text : Refusal → ℕ → List ℕ
refused_text (refusal.TooEarly first) seen = telling (codes "first") (decimal first) (codes "TooEarly") seen
refused_text (refusal.Unpublished latest) seen = telling (codes "latest") (decimal latest) (codes "Unpublished") seen
refused_text (refusal.NoSuchSupervoxel id) seen = telling (codes "id") (id_text id) (codes "NoSuchSupervoxel") seen
refused_text (refusal.NotARoot id) seen = telling (codes "id") (id_text id) (codes "NotARoot") seen
refused_text (refusal.NoSuchRoot id) seen = telling (codes "id") (id_text id) (codes "NoSuchRoot") seen
refused_text (refusal.NoSuchOp op) seen = of_operation op (codes "NoSuchOp") seen
refused_text refusal.NoPairs seen = plain (codes "NoPairs") seen
refused_text (refusal.TooManyPairs count) seen = telling (codes "count") (decimal count) (codes "TooManyPairs") seen
refused_text refusal.NoMarks seen = plain (codes "NoMarks") seen
refused_text (refusal.TooManyMarks count) seen = telling (codes "count") (decimal count) (codes "TooManyMarks") seen
refused_text (refusal.BothSides id) seen = telling (codes "id") (id_text id) (codes "BothSides") seen
refused_text (refusal.NotAnEdit op) seen = of_operation op (codes "NotAnEdit") seen
refused_text (refusal.NotInForce op) seen = of_operation op (codes "NotInForce") seen
refused_text (refusal.InForce op) seen = of_operation op (codes "InForce") seen
refused_text (refusal.Overtaken by) seen = telling (codes "by") (decimal by) (codes "Overtaken") seen
refused_text (refusal.SameRoot root) seen = line (not_ok ∷ named (codes "SameRoot") ∷ member (codes "root") (id_text root) ∷ member (codes "seen") (decimal seen) ∷ [])
refused_text (refusal.DifferentRoots first other) seen =
    line (member (codes "first") (id_text first) ∷ not_ok ∷ member (codes "other") (id_text other) ∷ named (codes "DifferentRoots") ∷ member (codes "seen") (decimal seen) ∷ [])
refused_text (refusal.TooLarge edges) seen = telling (codes "edges") (decimal edges) (codes "TooLarge") seen
refused_text (refusal.Glued source sink) seen =
    line (not_ok ∷ named (codes "Glued") ∷ member (codes "seen") (decimal seen) ∷ member (codes "sink") (id_text sink) ∷ member (codes "source") (id_text source) ∷ [])
refused_text (refusal.StoreFull need spare) seen =
    line (member (codes "need") (decimal need) ∷ not_ok ∷ named (codes "StoreFull") ∷ member (codes "seen") (decimal seen) ∷ member (codes "spare") (decimal spare) ∷ [])
refused_text (refusal.IdsSpent layer x y z) seen =
    line (member (codes "layer") (decimal layer) ∷ not_ok ∷ named (codes "IdsSpent") ∷ member (codes "seen") (decimal seen)
    ∷ member (codes "x") (decimal x) ∷ member (codes "y") (decimal y) ∷ member (codes "z") (decimal z) ∷ [])
refused_text (refusal.ClockEnd last) seen = telling (codes "last") (decimal last) (codes "ClockEnd") seen
refused_text refusal.NoMemory seen = bare (codes "NoMemory")

unfoldable pub field_name : FieldName → List ℕ
field_name fields.Do = codes "do"
field_name fields.Sv = codes "sv"
field_name fields.At = codes "at"
field_name fields.Root = codes "root"
field_name fields.A = codes "a"
field_name fields.B = codes "b"
field_name fields.Sources = codes "sources"
field_name fields.Sinks = codes "sinks"
field_name fields.Op = codes "op"
field_name fields.Pairs = codes "pairs"
field_name fields.Low = codes "low"
field_name fields.High = codes "high"

-- a line one of whose fields has a fault
abbrev pub lacking : FieldName → List ℕ → List ℕ
lacking field fault = line (member (codes "name") (quoted (field_name field)) ∷ not_ok ∷ named fault ∷ [])

-- the answer to a line that is no request
unfoldable pub bad_line_text : LineError → List ℕ
bad_line_text (error.LineTooLong bytes) = line (member (codes "bytes") (decimal bytes) ∷ not_ok ∷ named (codes "LineTooLong") ∷ [])
bad_line_text error.NotJson = bare (codes "NotJson")
bad_line_text error.NotObject = bare (codes "NotObject")
bad_line_text (error.MissingField name) = lacking name (codes "MissingField")
bad_line_text (error.BadField name) = lacking name (codes "BadField")
bad_line_text error.NoSuchCommand = bare (codes "NoSuchCommand")
bad_line_text error.NoMemory = bare (codes "NoMemory")
