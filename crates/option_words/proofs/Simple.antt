-- A command of options and stems is one that clap's words tell.
use Rattle.std.proofs.Common.{◌≡◌, ◌∙◌, ℕ, ◌+◌, ◌<◌, length, take, get_or, Bool, true, false, not, ◌&&◌, refl, sym, ap, List, [], ◌∷◌, ◌++◌, map, Some, None, option_map, append-nil, is_some}
use Rattle.std.specs.List.{count_by, list_all, list_any}
use Rattle.std.proofs.lemmas.List.{map-append, take_more}
use Rattle.clap.specs.Faults.{fault_of, is_simple_and_free}
use Rattle.clap.specs.Kinds.{IsAmong, Kinds}
use Rattle.clap.specs.declared.error.kind.ErrorKind.{ErrorKind}
use Rattle.clap.specs.Simple.{App, filled_from, is_in_order, is_simple, matches_of, with_rule}
use Rattle.clap.specs.Walk.{Row, Rule, Text, is_early_multiple}
use Rattle.option_words.specs.Grammar.{Known}
use Rattle.option_words.specs.Command.{command_of, option_rule, stem_rule, stem_rules}
use Rattle.option_words.specs.Found.{clap_found, if_none, known_of, line_in}
use Rattle.option_words.specs.declared.options.OptionRule.{OptionRule}
use Rattle.option_words.proofs.Rules.{filled_options, rules_with}

simple_rules : (known : List Known) (stems : Bool) → list_all (λ (a : Rule). a.is_simple) (map option_rule known ++ stem_rules stems) ≡ true
simple_rules [] true = refl
simple_rules [] false = refl
simple_rules (k ∷ known) stems = simple_rules known stems

built_simple : (known : List Known) (stems : Bool) → list_all (λ (a : Rule). a.is_simple) (rules_with known stems) ≡ true
built_simple [] true = refl
built_simple [] false = refl
built_simple (k ∷ known) stems = built_simple known stems

built_free : (known : List Known) (stems : Bool) → list_all (λ (a : Rule). a.is_free) (rules_with known stems) ≡ true
built_free [] true = refl
built_free [] false = refl
built_free (k ∷ known) stems = built_free known stems

count_is : (known : List Known) → count_by (λ (a : Rule). is_some a.index) (rules_with known true) ≡ 1
count_is [] = refl
count_is (k ∷ known) = count_is known

none_early : (known : List Known) → list_any (is_early_multiple 1) (rules_with known true) ≡ false
none_early [] = refl
none_early (k ∷ known) = none_early known

none_at_all : (n : ℕ) (known : List Known) → list_any (is_early_multiple n) (rules_with known false) ≡ false
none_at_all n [] = refl
none_at_all n (k ∷ known) = none_at_all n known

in_order : (known : List Known) (stems : Bool) → is_in_order (rules_with known stems) ≡ true
in_order known true = ap (λ n. not (list_any (is_early_multiple n) (rules_with known true))) (count_is known) ∙ ap not (none_early known)
in_order known false = ap not (none_at_all (count_by (λ (a : Rule). is_some a.index) (rules_with known false)) known)

pub command_is_simple : (known : List Known) (stems : Bool) → is_simple (command_of known stems) ≡ true
unfolding command_of
command_is_simple known stems =
    ap (λ rules. (((true && list_all (λ (a : Rule). a.is_simple) (map option_rule known ++ stem_rules stems)) && true) && (((true && list_all (λ (a : Rule). a.is_simple) rules) && is_in_order rules) && true))) (filled_options known stems)
    ∙ (λ i. (((true && simple_rules known stems i) && true) && (((true && built_simple known stems i) && in_order known stems i) && true)))

pub command_is_free : (known : List Known) (stems : Bool) → is_simple_and_free (command_of known stems) ≡ true
unfolding command_of
command_is_free known stems =
    ap (λ b. b && (list_all (λ (a : Rule). a.is_free) (filled_from 1 (map option_rule known ++ stem_rules stems)) && true)) (command_is_simple known stems)
    ∙ ap (λ rules. list_all (λ (a : Rule). a.is_free) rules && true) (filled_options known stems)
    ∙ ap (λ b. b && true) (built_free known stems)

-- ---- building it

pub one_option_more : (known : List Known) (k : Known) → with_rule (command_of known false) (option_rule k) ≡ command_of (known ++ k ∷ []) false
unfolding command_of
one_option_more known k =
    let rules = ap (λ rs. rs ++ option_rule k ∷ []) (append-nil (map option_rule known)) ∙ sym (map-append option_rule known (k ∷ [])) ∙ sym (append-nil (map option_rule (known ++ k ∷ []))) in
    λ i. record { top = record (command_of known false).top { rules = rules i }; subs = [] }

pub stems_more : (known : List Known) → with_rule (command_of known false) stem_rule ≡ command_of known true
unfolding command_of
stems_more known = λ i. record { top = record (command_of known false).top { rules = append-nil (map option_rule known) i ++ stem_rule ∷ [] }; subs = [] }

pub next_known : (xs : List OptionRule) (i : ℕ) (d : OptionRule) → i < length xs → command_of (known_of (take i xs) ++ known_of (get_or xs i d ∷ [])) false ≡ command_of (known_of (take (i + 1) xs)) false
next_known xs i d lt = ap (λ known. command_of known false) (sym (ap known_of (take_more xs i d lt) ∙ map-append (λ (o : OptionRule). (o.name.now, o.is_required)) (take i xs) (get_or xs i d ∷ [])))

-- ---- reading with it

pub clap_finds_rows : (known : List Known) (stems : Bool) (words : List Text) (rows : List Row) (a : App) → a ≡ command_of known stems → fault_of a words ≡ [] → rows ≡ matches_of a words
    → option_map line_in (clap_found known stems words) ≡ Some (line_in rows)
clap_finds_rows known stems words rows a same none is =
    sym (ap (λ (a : App). option_map line_in (if_none (fault_of a words) (Some (matches_of a words)))) same)
    ∙ (λ i. option_map line_in (if_none (none i) (Some (sym is i))))

pub clap_finds_none : (known : List Known) (stems : Bool) (words : List Text) (a : App) (e : ErrorKind) → a ≡ command_of known stems → IsAmong e (fault_of a words)
    → option_map line_in (clap_found known stems words) ≡ None
clap_finds_none known stems words a e same among = sym (ap (λ (a : App). option_map line_in (if_none (fault_of a words) (Some (matches_of a words)))) same) ∙ go (fault_of a words) among
  where
    go : (ks : Kinds) → IsAmong e ks → option_map line_in (if_none ks (Some (matches_of a words))) ≡ None
    go [] h = absurd h
    go (k ∷ ks) h = refl
