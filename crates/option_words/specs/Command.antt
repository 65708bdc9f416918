-- Inner: no clause of `run` is made of it.
-- The command by which `clap` reads options and stems.
use Rattle.std.specs.Prelude.{Bool, true, false, Some, codes, List, [], ◌∷◌, ◌++◌, map}
use Rattle.clap.specs.Walk.{Rule}
use Rattle.clap.specs.Simple.{App, new_rule, new_shape}
use Rattle.clap.specs.declared.builder.action.ArgAction.TheVariants.{Set, Append}
use Rattle.option_words.specs.Grammar.{Known}

-- an option takes one value
abbrev pub option_rule : Known → Rule
option_rule k = record (new_rule k.0) { long = Some k.0; action = Some Set; required = k.1 }

-- the stems are all words that are no option and no value
abbrev pub stem_rule : Rule
stem_rule = record (new_rule (codes "stem")) { action = Some Append; required = true }

-- with stems or without
abbrev pub stem_rules : Bool → List Rule
stem_rules true = stem_rule ∷ []
stem_rules false = []

-- there are no flags, and no name of the program stands in front of the words
unfoldable pub command_of : List Known → Bool → App
command_of known with_stems = record {
  top = record (new_shape (codes "pcg")) {
    rules = map option_rule known ++ stem_rules with_stems;
    no_binary_name = true;
    disable_help_flag = true;
    disable_version_flag = true;
  };
  subs = [];
}
