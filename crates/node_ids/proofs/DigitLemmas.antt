-- Texts that spell numbers.
use Rattle.std.proofs.Common.{◌≡◌, ℕ, ◌<◌, ◌≤◌, ◌^◌, List, length, Some, None, Ok, Err, ◌≢◌, true, false, ltb, eqb, get_or, sym, ◌∙◌, ap, subst, arith, decimal}
use mathlib.Core.Logic.{⊎_elim}
use Rattle.std.proofs.lemmas.Bool.{cases_lt, both_ways, and_parts, and_from, ltb-true, lt-ltb, leb-true, le-leb, eqb-true, eq-eqb, not-true, not_from_false, cond-true, cond-false, false_from_ne_true}
use Rattle.std.proofs.lemmas.Option.{cond_some}
use Rattle.std.proofs.lemmas.Fmt.{decimal_nonempty, length-decimal-le, first_decimal, digits_decimal, digits_value-decimal, decimal-digits_value, decimal_digit, IsAscii-from_digits}
use Rattle.std.proofs.lemmas.Str.Parse.{parse_plain, parse_digits, not_in_digits, IsNumeralModel, numerals_by_value, tells_all_ascii_digits}
use Rattle.std.proofs.lemmas.Str.{IsUtf8-from_ascii}
use Rattle.std.specs.Str.{all_ascii_digits, IsUtf8}
use Rattle.std.specs.Str.Parse.{digits_value, ParsesUnsigned}
use Rattle.node_ids.specs.Digits.{has_leading_zero, is_spelling, number_of}

pub own : IsNumeralModel (λ ds. all_ascii_digits ds ≡ true) (digits_value 10)
own = numerals_by_value _ tells_all_ascii_digits

-- what a spelling has
pub record Spells (text : List ℕ) : Type 0 where
  pub some : 1 ≤ length text
  pub few : length text ≤ 20
  pub lead : get_or text 0 0 ≡ 48 → length text ≡ 1
  pub digits : all_ascii_digits text ≡ true

lead_one : (text : List ℕ) → 1 ≤ length text → has_leading_zero text ≡ false → get_or text 0 0 ≡ 48 → length text ≡ 1
lead_one text some none zero =
    ⊎_elim (λ many. absurd (both_ways _ none (and_from _ _ (eq-eqb _ _ zero) (lt-ltb 1 (length text) many)))) (λ few. omega arith) (cases_lt 1 (length text))

pub spells_from : (text : List ℕ) → is_spelling text ≡ true → Spells text
spells_from text e =
    let a = and_parts _ _ e in
    let b = and_parts _ _ a.0 in
    let d = and_parts _ _ b.0 in
    let some : 1 ≤ length text = leb-true _ _ d.0 in
    record { some = some; few = leb-true _ _ d.1; lead = lead_one text some (not-true _ b.1); digits = a.1 }

no_lead : (text : List ℕ) → (get_or text 0 0 ≡ 48 → length text ≡ 1) → has_leading_zero text ≡ false
no_lead text lead = false_from_ne_true _ (λ e. let k = and_parts (eqb (get_or text 0 0) 48) (ltb 1 (length text)) e in omega (arith, lead (eqb-true _ _ k.0), ltb-true 1 (length text) k.1))

pub spells_to : (text : List ℕ) → Spells text → is_spelling text ≡ true
spells_to text s =
    and_from _ _ (and_from _ _ (and_from _ _ (le-leb 1 (length text) s.some) (le-leb (length text) 20 s.few)) (not_from_false _ (no_lead text s.lead))) s.digits

pub number_from : (text : List ℕ) → Spells text → digits_value 10 text < 2 ^ 64 → number_of text ≡ Some (digits_value 10 text)
unfolding number_of
number_from text s small = cond-true _ _ _ (and_from _ _ (spells_to text s) (lt-ltb _ _ small))

pub none_where : (text : List ℕ) → (Spells text → digits_value 10 text < 2 ^ 64 → ⊥) → number_of text ≡ None
unfolding number_of
none_where text never = cond-false _ _ _ (false_from_ne_true _ (λ e. let k = and_parts _ _ e in never (spells_from text k.0) (ltb-true _ _ k.1)))

pub spelled : (text : List ℕ) (n : ℕ) → number_of text ≡ Some n → (text ≡ decimal n) × (n < 2 ^ 64)
unfolding number_of
spelled text n e =
    let k = cond_some _ _ _ e in
    let b = and_parts _ _ k.0 in
    let s = spells_from text b.0 in
    let small : digits_value 10 text < 2 ^ 64 = ltb-true _ _ b.1 in
    let same : decimal (digits_value 10 text) ≡ text = decimal-digits_value own text s.digits s.some s.lead small in
    (sym same ∙ ap decimal k.1, subst (λ m. m < 2 ^ 64) k.1 small)

pub decimal_spells : (n : ℕ) → n < 2 ^ 64 → Spells (decimal n)
decimal_spells n small = record {
  some = decimal_nonempty n small;
  few = length-decimal-le 20 n (omega arith) (omega arith) small;
  lead = ⊎_elim (λ some z. omega (arith, first_decimal n some small, z)) (λ few _. ap length (decimal_digit n (omega arith))) (cases_lt 0 n);
  digits = digits_decimal own n small;
}

pub read_back : (n : ℕ) → n < 2 ^ 64 → number_of (decimal n) ≡ Some n
read_back n small =
    let v : digits_value 10 (decimal n) ≡ n = digits_value-decimal own n small in
    number_from (decimal n) (decimal_spells n small) (subst (λ m. m < 2 ^ 64) (sym v) small) ∙ ap Some v

-- what `parse` answers

pub parsed : (text same : List ℕ) (n : ℕ) → same ≡ text → ParsesUnsigned {E = ℕ} 64 10 same (Ok n)
    → 1 ≤ length text → length text ≤ 20 → (get_or text 0 0 ≡ 48 → length text ≡ 1) → get_or text 0 0 ≢ 43 → number_of text ≡ Some n
parsed text same n e h some few lead plain =
    let k = parse_plain own {E = ℕ} 64 text (Ok n) (subst (λ t. ParsesUnsigned {E = ℕ} 64 10 t (Ok n)) e h) plain in
    number_from text (record { some = some; few = few; lead = lead; digits = k.0.0 }) k.0.2 ∙ ap Some (sym k.1)

-- the error is of no concern
pub unparsed : (text same : List ℕ) → same ≡ text → ParsesUnsigned {E = ℕ} 64 10 same (Err 0) → number_of text ≡ None
unparsed text same e h =
    none_where text (λ s small. parse_digits own {E = ℕ} 64 text (Err 0) (subst (λ t. ParsesUnsigned {E = ℕ} 64 10 t (Err 0)) e h) s.digits (s.some, small))

pub spells_plain : (text : List ℕ) → Spells text → get_or text 0 0 ≢ 43
spells_plain text s = not_in_digits own text 43 s.digits (λ r. omega arith) 0 s.some

pub spells_utf8 : (text : List ℕ) → Spells text → IsUtf8 text
spells_utf8 text s = IsUtf8-from_ascii text (IsAscii-from_digits text (own.to text s.digits))

pub read_front : (n : ℕ) (front : List ℕ) → n < 2 ^ 64 → front ≡ decimal n → number_of front ≡ Some n
read_front n front small e = ap number_of e ∙ read_back n small
