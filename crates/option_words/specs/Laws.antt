-- Inner: no clause of `run` is made of it.
-- Laws of the grammar, and words that were read by hand.
use Rattle.std.specs.Prelude.{◌≡◌, Bool, true, false, List, [], ◌∷◌, codes, Option, Some, None, option_map, option_and_then}
use Rattle.option_words.specs.Found.{clap_found, line_in, line_plain, stem_id}
use Rattle.option_words.specs.Grammar.{Known, Line, Text, is_known, line_of, only_if}

-- what the words say is what `clap` finds in them, if it takes them and all of it is plain
abbrev pub LinesAreClaps : Type 0
LinesAreClaps = (known : List Known) (with_stems : Bool) (words : List Text) → is_known known stem_id ≡ false
    → line_of known with_stems words ≡ option_and_then (only_if (line_plain known)) (option_map line_in (clap_found known with_stems words))

-- a command with an option that has to stand, another one, and stems
abbrev pub sample : List Known
sample = (codes "bits", true) ∷ (codes "from", false) ∷ []

-- the values of both options, and the stems
abbrev pub told : List Text → Option (Option Text × Option Text × List Text)
told words = option_map (λ (l : Line). (l.value (codes "bits"), l.value (codes "from"), l.stems)) (line_of sample true words)

-- options between stems; an option that stands twice; a stem with a hyphen, also behind the options' end
abbrev pub WorkedLines : Type 0
WorkedLines =
    (told (codes "s" ∷ codes "--bits=a=b" ∷ codes "t" ∷ codes "--from" ∷ codes "1" ∷ codes "--" ∷ codes "u" ∷ [])
    ≡ Some (Some (codes "a=b"), Some (codes "1"), codes "s" ∷ codes "t" ∷ codes "u" ∷ []))
    × (told (codes "--bits" ∷ codes "8" ∷ codes "--bits" ∷ codes "8" ∷ codes "s" ∷ []) ≡ None)
    × (told (codes "--bits" ∷ codes "8" ∷ codes "--" ∷ codes "-s" ∷ []) ≡ None)
