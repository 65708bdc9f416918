-- Compact JSON: objects, lists and their parts as texts.
use Rattle.std.specs.Prelude.{ℕ, Bool, true, false, List, [], ◌∷◌, ◌++◌, codes, decimal}

-- each text after a comma, and this text at the end
abbrev pub following : List (List ℕ) → List ℕ → List ℕ
following [] end = end
following (m ∷ ms) end = codes "," ++ m ++ following ms end

-- the texts with commas between them, and this text at the end
abbrev pub joined : List (List ℕ) → List ℕ → List ℕ
joined [] end = end
joined (m ∷ ms) end = m ++ following ms end

abbrev pub object : List (List ℕ) → List ℕ
object members = codes "{" ++ joined members (codes "}")

abbrev pub array : List (List ℕ) → List ℕ
array items = codes "[" ++ joined items (codes "]")

-- an object that is a line of its own
abbrev pub line : List (List ℕ) → List ℕ
line members = codes "{" ++ joined members (codes "}\n")

-- "key":value
abbrev pub member : List ℕ → List ℕ → List ℕ
member key value = codes "\"" ++ key ++ codes "\":" ++ value

abbrev pub quoted : List ℕ → List ℕ
quoted name = codes "\"" ++ name ++ codes "\""

abbrev pub truth : Bool → List ℕ
truth true = codes "true"
truth false = codes "false"

-- the digits of an id, as a string
unfoldable pub id_text : ℕ → List ℕ
id_text id = codes "\"" ++ decimal id ++ codes "\""
