-- The grammar of a command line: options with a value each, and stems.
use Rattle.std.specs.Prelude.{ℕ, Bool, true, false, not, ◌&&◌, ◌||◌, ◌==◌, if◌then◌else◌, List, [], ◌∷◌, map, take, drop, codes, bytes_eq, Option, Some, None, option_map, option_and_then}
use Rattle.std.specs.List.{list_any, list_all}
use Rattle.std.specs.Option.{option_map_or}
use Rattle.pcg_base.specs.Cutting.{cut_at}

abbrev pub Text : Type 0
Text = List ℕ

-- an option: its name, and whether it has to stand
abbrev pub Known : Type 0
Known = Text × Bool

-- one use: an option with its value, or a stem
pub data Use : Type 0 where
  given : Text → Text → Use
  stem : Text → Use

-- what a word is: the end of the options, an option with or without its value, or any other word
pub data Form : Type 0 where
  ends : Form
  option : Text → Option Text → Form
  other : Form

-- an option, by what stands behind its hyphens: `name` or `name=value`
abbrev pub option_form : Text → Form
option_form text = option_map_or (λ p. option p.0 (Some p.1)) (cut_at 61 text) (option text None)

-- what a word is
abbrev pub form_of : Text → Form
form_of word = if bytes_eq word (codes "--") then ends else (if bytes_eq (take 2 word) (codes "--") then option_form (drop 2 word) else other)

-- a use in front of others, if there are any
abbrev pub then_uses : Use → Option (List Use) → Option (List Use)
then_uses u = option_map (λ uses. u ∷ uses)

-- The uses of a word and of the words behind it, if an option waits for its value or none does. A waiting option takes the word, whatever it is.
abbrev pub uses_from : Option Text → Form → Text → List Text → (Option Text → Option (List Use)) → Option (List Use)
uses_from (Some name) form word words more = then_uses (given name word) (more None)
uses_from None ends word words more = Some (map stem words)
uses_from None (option name (Some value)) word words more = then_uses (given name value) (more None)
uses_from None (option name None) word words more = more (Some name)
uses_from None other word words more = then_uses (stem word) (more None)

-- the uses of the words, in their order, unless an option lacks its value
unfoldable pub uses_of : List Text → Option Text → Option (List Use)
uses_of [] None = Some []
uses_of [] (Some name) = None
uses_of (word ∷ words) waiting = uses_from waiting (form_of word) word words (uses_of words)

-- a value or a stem
abbrev pub text_of : Use → Text
text_of (given name value) = value
text_of (stem text) = text

-- the names of the options that stand
unfoldable pub names_of : List Use → List Text
names_of [] = []
names_of (given name value ∷ uses) = name ∷ names_of uses
names_of (stem text ∷ uses) = names_of uses

-- the stems
unfoldable pub stems_of : List Use → List Text
stems_of [] = []
stems_of (given name value ∷ uses) = stems_of uses
stems_of (stem text ∷ uses) = text ∷ stems_of uses

-- the value of an option, if it stands
unfoldable pub value_of : Text → List Use → Option Text
value_of name [] = None
value_of name (given found value ∷ uses) = if bytes_eq found name then Some value else value_of name uses
value_of name (stem text ∷ uses) = value_of name uses

-- the text isn't empty and doesn't begin with a hyphen
abbrev pub is_plain : Text → Bool
is_plain [] = false
is_plain (b ∷ bs) = not (b == 45)

-- no text stands twice
abbrev pub all_differ : List Text → Bool
all_differ [] = true
all_differ (text ∷ texts) = not (list_any (bytes_eq text) texts) && all_differ texts

abbrev pub is_empty : List Text → Bool
is_empty [] = true
is_empty (text ∷ texts) = false

-- the command has the option
abbrev pub is_known : List Known → Text → Bool
is_known known name = list_any (λ k. bytes_eq k.0 name) known

-- Each option that stands is known and stands once, and all that have to stand do. There are stems if the command has them, and none otherwise.
unfoldable pub fits : List Known → Bool → List Use → Bool
fits known with_stems uses =
    list_all (is_known known) (names_of uses)
    && all_differ (names_of uses)
    && list_all (λ k. not k.1 || list_any (λ name. bytes_eq name k.0) (names_of uses)) known
    && (if with_stems then not (is_empty (stems_of uses)) else is_empty (stems_of uses))

-- all values and stems are plain
abbrev pub all_plain : List Use → Bool
all_plain uses = list_all (λ u. is_plain (text_of u)) uses

-- a value that passes a test
abbrev pub only_if : {A : Type 0} → (A → Bool) → A → Option A
only_if test x = if test x then Some x else None

-- what a command line says: the value of each option that stands, and the stems
pub record Line : Type 0 where
  pub value : Text → Option Text
  pub stems : List Text

-- what these uses say
abbrev pub line_with : List Use → Line
line_with uses = record { value = λ name. value_of name uses; stems = stems_of uses }

-- what the words say, if they are of the command's grammar
unfoldable pub line_of : List Known → Bool → List Text → Option Line
line_of known with_stems words = option_map line_with (option_and_then (only_if (λ uses. all_plain uses && fits known with_stems uses)) (uses_of words None))
