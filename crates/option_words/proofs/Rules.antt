-- The rules of a command of options and stems.
use Rattle.std.proofs.Common.{◌≡◌, ◌∙◌, ℕ, Bool, cond, true, false, ◌||◌, refl, sym, ap, List, [], ◌∷◌, ◌++◌, map, Option, Some, None, codes, option_map, bytes_eq}
use Rattle.std.specs.List.{find}
use Rattle.std.proofs.lemmas.Slice.Eq.{bytes_eq-Decides}
use Rattle.clap.specs.Walk.{Rule, Text, arg_by_id, arg_by_index, arg_by_long, arg_by_short}
use Rattle.clap.specs.Simple.{built, filled, filled_from, with_index}
use Rattle.option_words.specs.Grammar.{Known}
use Rattle.option_words.specs.Command.{command_of, option_rule, stem_rule, stem_rules}

-- the rules as building leaves them
abbrev pub built_option : Known → Rule
built_option k = filled (option_rule k)

abbrev pub built_stem : Rule
built_stem = with_index 1 (filled stem_rule)

abbrev pub built_stems : Bool → List Rule
built_stems true = built_stem ∷ []
built_stems false = []

abbrev pub rules_with : List Known → Bool → List Rule
rules_with known stems = map built_option known ++ built_stems stems

pub filled_options : (known : List Known) (stems : Bool) → filled_from 1 (map option_rule known ++ stem_rules stems) ≡ rules_with known stems
filled_options [] true = refl
filled_options [] false = refl
filled_options (k ∷ known) stems = ap (λ rules. built_option k ∷ rules) (filled_options known stems)

pub built_rules : (known : List Known) (stems : Bool) → (built (command_of known stems)).top.rules ≡ rules_with known stems
unfolding command_of
built_rules known stems = filled_options known stems

abbrev pub named : Text → Known → Bool
named name k = bytes_eq k.0 name

abbrev pub first_some : {A : Type 0} → Option A → Option A → Option A
first_some None b = b
first_some (Some x) b = Some x

pub by_id : (known : List Known) (more : List Rule) (id : Text) → arg_by_id (map built_option known ++ more) id ≡ first_some (option_map built_option (find (named id) known)) (arg_by_id more id)
by_id [] more id = refl
by_id (k ∷ known) more id = go (bytes_eq k.0 id) (by_id known more id)
  where
    go : (b : Bool) → arg_by_id (map built_option known ++ more) id ≡ first_some (option_map built_option (find (named id) known)) (arg_by_id more id)
        → cond b (Some (built_option k)) (arg_by_id (map built_option known ++ more) id) ≡ first_some (option_map built_option (cond b (Some k) (find (named id) known))) (arg_by_id more id)
    go true e = refl
    go false e = e

by_long_more : (known : List Known) (more : List Rule) (name : Text) → arg_by_long (map built_option known ++ more) name ≡ first_some (option_map built_option (find (named name) known)) (arg_by_long more name)
by_long_more [] more name = refl
by_long_more (k ∷ known) more name = go (bytes_eq k.0 name) (by_long_more known more name)
  where
    go : (b : Bool) → arg_by_long (map built_option known ++ more) name ≡ first_some (option_map built_option (find (named name) known)) (arg_by_long more name)
        → cond (b || false) (Some (built_option k)) (arg_by_long (map built_option known ++ more) name) ≡ first_some (option_map built_option (cond b (Some k) (find (named name) known))) (arg_by_long more name)
    go true e = refl
    go false e = e

no_more : {A : Type 0} (o : Option A) → first_some o None ≡ o
no_more None = refl
no_more (Some x) = refl

stems_no_long : (stems : Bool) (name : Text) → arg_by_long (built_stems stems) name ≡ None
stems_no_long true name = refl
stems_no_long false name = refl

pub by_long : (known : List Known) (stems : Bool) (name : Text) → arg_by_long (rules_with known stems) name ≡ option_map built_option (find (named name) known)
by_long known stems name =
    by_long_more known (built_stems stems) name
    ∙ ap (first_some (option_map built_option (find (named name) known))) (stems_no_long stems name)
    ∙ no_more (option_map built_option (find (named name) known))

pub by_short : (known : List Known) (stems : Bool) (x : ℕ) → arg_by_short (rules_with known stems) x ≡ None
by_short [] true x = refl
by_short [] false x = refl
by_short (k ∷ known) stems x = by_short known stems x

abbrev pub stem_of : Bool → Option Rule
stem_of true = Some built_stem
stem_of false = None

pub by_index : (known : List Known) (stems : Bool) → arg_by_index (rules_with known stems) 1 ≡ stem_of stems
by_index [] true = refl
by_index [] false = refl
by_index (k ∷ known) stems = by_index known stems

-- an option's rule is found by its name, and the stems' by theirs where no option has it
pub option_by_id : (known : List Known) (stems : Bool) (name : Text) (k : Known) → find (named name) known ≡ Some k → arg_by_id (rules_with known stems) name ≡ Some (built_option k)
option_by_id known stems name k e = by_id known (built_stems stems) name ∙ ap (λ o. first_some (option_map built_option o) (arg_by_id (built_stems stems) name)) e

pub stem_by_id : (known : List Known) → find (named (codes "stem")) known ≡ None → arg_by_id (rules_with known true) (codes "stem") ≡ Some built_stem
stem_by_id known e = by_id known (built_stems true) (codes "stem") ∙ ap (λ o. first_some (option_map built_option o) (Some built_stem)) e

-- what is found by a name has it
pub known_name : (known : List Known) (name : Text) (k : Known) → find (named name) known ≡ Some k → k.0 ≡ name
known_name [] name k e = cc e
known_name (x ∷ known) name k e = go (bytes_eq x.0 name) refl e (known_name known name k)
  where
    go : (b : Bool) → bytes_eq x.0 name ≡ b → cond b (Some x) (find (named name) known) ≡ Some k → (find (named name) known ≡ Some k → k.0 ≡ name) → k.0 ≡ name
    go true is f more = let same : x ≡ k = cc f in sym (ap (λ (y : Known). y.0) same) ∙ (bytes_eq-Decides x.0 name).0 is
    go false is f more = more f
