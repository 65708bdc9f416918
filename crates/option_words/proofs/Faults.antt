-- What clap makes of the words of a command: no fault, and the rows of the uses.
use Rattle.std.proofs.Common.{◌≡◌, ◌∙◌, Bool, cond, true, false, not, ◌&&◌, ◌||◌, refl, ap, List, [], ◌∷◌, Option, Some, None, codes, option_and_then}
use Rattle.std.specs.List.{find, fold, list_any}
use Rattle.clap.specs.Kinds.{Kinds, or_else}
use Rattle.clap.specs.Takes.{is_given}
use Rattle.clap.specs.Walk.{Row, Rule, Text, finished, has_row, nothing_held, settled, walk, walk_from, with_default}
use Rattle.clap.specs.Simple.{built, matches_of}
use Rattle.clap.specs.Faults.{check_fault, defaults_fault, fault_of, level_fault, settle_fault, walk_fault}
use Rattle.clap.proofs.FaultLemmas.{leaf_fault}
use Rattle.option_words.specs.Grammar.{Known}
use Rattle.option_words.specs.Command.{command_of}
use Rattle.option_words.specs.Found.{clap_found, if_none}
use Rattle.option_words.proofs.Rules.{built_option, filled_options, named, rules_with}
use Rattle.option_words.proofs.Walks.{applied, loose_uses, outcome_is, top_of}

built_is : (known : List Known) (stems : Bool) → (built (command_of known stems)).top ≡ top_of (rules_with known stems)
unfolding command_of
built_is known stems = ap top_of (filled_options known stems)

fault_is : (known : List Known) (stems : Bool) (words : List Text) → fault_of (command_of known stems) words ≡ level_fault (top_of (rules_with known stems)) [] nothing_held words false []
unfolding command_of
fault_is known stems words = leaf_fault (built (command_of known stems)) nothing_held words refl ∙ ap (λ s. level_fault s [] nothing_held words false []) (built_is known stems)

matches_are : (known : List Known) (stems : Bool) (words : List Text) → matches_of (command_of known stems) words ≡ finished (rules_with known stems) (walk (rules_with known stems) [] nothing_held words).held
unfolding command_of
matches_are known stems words = ap (λ c. finished c (walk c [] nothing_held words).held) (filled_options known stems)

-- no rule has a default
either : {A : Type 0} (b : Bool) (x y : A) → cond (b || true) x y ≡ x
either true x y = refl
either false x y = refl

alike : {A : Type 0} (b : Bool) (x : A) → cond b x x ≡ x
alike true x = refl
alike false x = refl

no_default_fault : (known : List Known) (stems : Bool) (rows : List Row) → defaults_fault rows (rules_with known stems) ≡ []
unfolding defaults_fault
no_default_fault [] true rows = ap (λ ks. or_else ks []) (either {A = Kinds} (has_row (codes "stem") rows) [] _)
no_default_fault [] false rows = refl
no_default_fault (k ∷ known) stems rows =
    ap (λ ks. or_else ks (defaults_fault (with_default rows (built_option k)) (rules_with known stems))) (either {A = Kinds} (has_row k.0 rows) [] _)
    ∙ no_default_fault known stems (with_default rows (built_option k))

no_default_rows : (known : List Known) (stems : Bool) (rows : List Row) → fold with_default rows (rules_with known stems) ≡ rows
no_default_rows [] true rows = alike (has_row (codes "stem") rows) rows
no_default_rows [] false rows = refl
no_default_rows (k ∷ known) stems rows = no_default_rows known stems (with_default rows (built_option k)) ∙ alike (has_row k.0 rows) rows

-- something that has to stand doesn't
abbrev pub is_missing : List Rule → List Row → Bool
is_missing c rows = list_any (λ a. a.required && not (is_given a.id rows)) c

abbrev pub if_all_there : List Rule → List Row → Option (List Row)
if_all_there c rows = if_none (check_fault (top_of c) rows false) (Some rows)

in_turn : (a b d e : Kinds) (c : List Rule) (end last : List Row) → d ≡ [] → last ≡ end → e ≡ check_fault (top_of c) last false
    → if_none (or_else a (or_else [] (or_else b (or_else d e)))) (Some last) ≡ option_and_then (if_all_there c) (if_none (or_else a b) (Some end))
in_turn (k ∷ ks) b d e c end last none same check = refl
in_turn [] (k ∷ ks) d e c end last none same check = refl
in_turn [] [] d e c end last none same check = (λ i. if_none (or_else (none i) (check i)) (Some last)) ∙ ap (if_all_there c) same

pub clap_finds : (known : List Known) (stems : Bool) (words : List Text) → find (named (codes "stem")) known ≡ None
    → clap_found known stems words ≡ option_and_then (if_all_there (rules_with known stems)) (option_and_then (λ uses. applied (rules_with known stems) uses []) (loose_uses words None))
clap_finds known stems words unnamed =
    let c = rules_with known stems in
    let end = (walk c [] nothing_held words).held in
    (λ i. if_none (fault_is known stems words i) (Some (matches_are known stems words i)))
    ∙ in_turn (walk_fault (top_of c) [] (walk_from nothing_held) words) (settle_fault c false end) (defaults_fault (settled c end).rows c) (check_fault (top_of c) (finished c end) false) c (settled c end).rows (finished c end)
    (no_default_fault known stems (settled c end).rows) (no_default_rows known stems (settled c end).rows) refl
    ∙ ap (option_and_then (if_all_there c)) (outcome_is known stems unnamed words)
