-- Inner: no clause of `run` is made of it.
-- What `clap` finds in the words, and what that says.
use Rattle.std.specs.Prelude.{Bool, true, if◌then◌else◌, List, [], ◌∷◌, map, codes, bytes_eq, ◌&&◌, Option, Some, None, unwrap_or}
use Rattle.std.specs.List.{list_all}
use Rattle.std.specs.Option.{option_map_or}
use Rattle.clap.specs.Faults.{fault_of}
use Rattle.clap.specs.Kinds.{Kinds}
use Rattle.clap.specs.Simple.{matches_of}
use Rattle.clap.specs.Walk.{Row, all_of, first_of}
use Rattle.option_words.specs.declared.options.OptionRule.{OptionRule}
use Rattle.option_words.specs.Command.{command_of}
use Rattle.option_words.specs.Grammar.{Known, Line, Text, is_plain}

-- the options of a command, as the grammar has them
abbrev pub known_of : List OptionRule → List Known
known_of options = map (λ o. (o.name.now, o.is_required)) options

-- the name that the stems have in `clap`
abbrev pub stem_id : Text
stem_id = codes "stem"

-- the value, if there is no fault
abbrev pub if_none : {A : Type 0} → Kinds → Option A → Option A
if_none [] o = o
if_none (k ∷ ks) o = None

-- `clap`'s rows, if it takes the words
abbrev pub clap_found : List Known → Bool → List Text → Option (List Row)
clap_found known with_stems words = if_none (fault_of (command_of known with_stems) words) (Some (matches_of (command_of known with_stems) words))

-- the values in the rows of an argument
abbrev pub values_of : Text → List Row → List Text
values_of id rows = unwrap_or (all_of id rows) []

-- what `clap`'s rows say
abbrev pub line_in : List Row → Line
line_in rows = record { value = λ name. if bytes_eq stem_id name then None else first_of name rows; stems = values_of stem_id rows }

-- the value is plain, if there is one
abbrev pub is_plain_if_there : Option Text → Bool
is_plain_if_there o = option_map_or is_plain o true

-- no value and no stem is empty or begins with a hyphen
abbrev pub line_plain : List Known → Line → Bool
line_plain known line = list_all (λ k. is_plain_if_there (line.value k.0)) known && list_all is_plain line.stems
