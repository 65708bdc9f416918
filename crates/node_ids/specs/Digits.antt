-- Numbers as texts of decimal digits. A text spells a number below 2 ^ 64 by 1 to 20 digits, without a leading zero.
use Rattle.std.specs.Prelude.{◌≡◌, ◌<◌, ℕ, ◌^◌, ◌==◌, ◌&&◌, not, Bool, List, length, Option, Some, None, nat_le, nat_lt, slice_index, decimal, if◌then◌else◌}
use Rattle.std.specs.Str.{all_ascii_digits}
use Rattle.std.specs.Str.Parse.{digits_value}

-- a zero that more digits follow
abbrev pub has_leading_zero : List ℕ → Bool
has_leading_zero text = slice_index text 0 == 48 && nat_lt 1 (length text)

-- 1 to 20 digits, without a leading zero
abbrev pub is_spelling : List ℕ → Bool
is_spelling text = nat_le 1 (length text) && nat_le (length text) 20 && not (has_leading_zero text) && all_ascii_digits text

-- the number that a text spells, if it spells one
unfoldable pub number_of : List ℕ → Option ℕ
number_of text = if is_spelling text && nat_lt (digits_value 10 text) (2 ^ 64) then Some (digits_value 10 text) else None

-- no text but a number's own spells it
abbrev pub SpellingsAreOne : Type 0
SpellingsAreOne = (text : List ℕ) (n : ℕ) → number_of text ≡ Some n → (text ≡ decimal n) × (n < 2 ^ 64)

-- each number is spelled by its own text
abbrev pub SpellingsAreRead : Type 0
SpellingsAreRead = (n : ℕ) → n < 2 ^ 64 → number_of (decimal n) ≡ Some n
