-- Each text has its records, and no others.
use Rattle.std.proofs.Common.{◌≡◌, ℕ, suc, zero, ◌+◌, ◌<◌, ◌≤◌, ◌==◌, List, [], ◌∷◌, ◌++◌, length, Bool, true, false, cond, Option, Some, None, true≢false, subst, refl, sym, ◌∙◌, ap, arith}
use Rattle.csv.specs.Machine.{Read, next_record, step, ends_at_end, is_end, in_field, start_field, start_record, ends_with}
use Rattle.csv.specs.Reading.{AreRecords, Reached, default_config, strip_bom}
use Rattle.csv.specs.declared.parser.State.{State}
use Rattle.csv.specs.declared.parser.State.TheVariants as st
use Rattle.csv.specs.declared.parser.Action.{Action}
use Rattle.csv.specs.declared.parser.Action.TheVariants as act
use Rattle.table_ingest.specs.Records.{Are}
use Rattle.table_ingest.proofs.Rows.{are-some, are-none}

abbrev Rows : Type 0
Rows = List (List (List ℕ))

-- a record was ended, so the machine stands between two records
abbrev Between : State × Action → Type 0
Between sa = is_end sa.1 ≡ true → ends_at_end sa.0 ≡ false

by_test : (b : Bool) (x y : State × Action) → Between x → Between y → Between (cond b x y)
by_test true x y p q = p
by_test false x y p q = q

rested : (b : Bool) → ends_at_end (cond b st.AfterCr st.StartRecord) ≡ false
rested true = refl
rested false = refl

in_field-between : (c : ℕ) → Between (in_field default_config c)
in_field-between c = by_test (c == 44) _ _ (λ e. absurd (true≢false (sym e))) (by_test (ends_with default_config.terminator c) _ _ (λ e. rested (c == 13)) (λ e. absurd (true≢false (sym e))))

goes_on : (s : State) (a : Action) → is_end a ≡ false → Between (s, a)
goes_on s a h e = absurd (true≢false (sym e ∙ h))

start_field-between : (c : ℕ) → Between (start_field default_config c)
start_field-between c = by_test (c == 34) _ _ (goes_on st.InQuoted act.Skip refl) (in_field-between c)

start_record-between : (c : ℕ) → Between (start_record default_config c)
start_record-between c = by_test (ends_with default_config.terminator c) _ _ (goes_on st.StartRecord act.Skip refl) (start_field-between c)

step-between : (s : State) (c : ℕ) → Between (step default_config s c)
step-between st.StartRecord c = start_record-between c
step-between st.StartField c = start_field-between c
step-between st.InField c = in_field-between c
step-between st.InQuoted c = by_test (c == 34) _ _ (goes_on st.AfterQuote act.Skip refl) (goes_on st.InQuoted act.Copy refl)
step-between st.InEscape c = goes_on st.InQuoted act.Copy refl
step-between st.AfterQuote c = by_test (c == 34) _ _ (goes_on st.InQuoted act.Copy refl) (in_field-between c)
step-between st.InComment c = by_test (c == 10) _ _ (goes_on st.StartRecord act.Skip refl) (goes_on st.InComment act.Skip refl)
step-between st.AfterCr c = by_test (c == 10) _ _ (goes_on st.StartRecord act.Skip refl) (start_record-between c)

-- what a read of a record leaves: the machine between two records, and less text
pub record Leaves (s : State) (xs : List ℕ) (p : Read) : Type 0 where
  between : ends_at_end p.1 ≡ false
  less : ends_at_end s ≡ false → length p.2 < length xs
  most : length p.2 ≤ length xs

at_end : (b : Bool) (s : State) (f : List (List ℕ)) (p : Read) → ends_at_end s ≡ b → cond b (Some (f, st.StartRecord, [])) None ≡ Some p → Leaves s [] p
at_end true s f p e is =
    let same : p ≡ (f, st.StartRecord, []) = cc is in
    let P : Read → Type 0 = Leaves s [] in
    subst P (sym same) (record { between = refl; less = λ h. absurd (true≢false (sym e ∙ h)); most = omega arith })
at_end false s f p e is = cc is

at_byte : (b : Bool) (s t : State) (c : ℕ) (rest : List ℕ) (f : List (List ℕ)) (o : Option Read) (p : Read) → (b ≡ true → ends_at_end t ≡ false) → (o ≡ Some p → Leaves t rest p)
    → cond b (Some (f, t, rest)) o ≡ Some p → Leaves s (c ∷ rest) p
at_byte true s t c rest f o p ended more is =
    let same : p ≡ (f, t, rest) = cc is in
    let P : Read → Type 0 = Leaves s (c ∷ rest) in
    subst P (sym same) (record { between = ended refl; less = λ h. omega arith; most = omega arith })
at_byte false s t c rest f o p ended more is =
    let m = more is in
    record { between = m.between; less = λ h. omega (arith, m.most); most = omega (arith, m.most) }

leaves : (s : State) (fields : List (List ℕ)) (field xs : List ℕ) (p : Read) → next_record default_config s fields field xs ≡ Some p → Leaves s xs p
unfolding next_record
leaves s fields field [] p e = at_end (ends_at_end s) s (fields ++ (field ∷ [])) p refl e
leaves s fields field (c ∷ rest) p e =
    at_byte _ s (step default_config s c).0 c rest _ _ p (step-between s c) (leaves (step default_config s c).0 _ _ rest p) e

-- a record that is read between two others takes a byte, and the machine stands between two again
pub read_less : (s : State) (xs : List ℕ) (p : Read) → ends_at_end s ≡ false → next_record default_config s [] [] xs ≡ Some p → (ends_at_end p.1 ≡ false) × (length p.2 < length xs)
read_less s xs p e is = let l = leaves s [] [] xs p is in (l.between, l.less e)

abbrev Has : State → List ℕ → Type 0
Has s xs = (rows : Rows) × AreRecords default_config s xs rows

rows_case : (s : State) (xs : List ℕ) (o : Option Read) → next_record default_config s [] [] xs ≡ o → ends_at_end s ≡ false
    → ((t : State) (ys : List ℕ) → length ys < length xs → ends_at_end t ≡ false → Has t ys) → Has s xs
unfolding Reached
rows_case s xs None is e less = ([], (s, xs, (refl, refl), is))
rows_case s xs (Some p) is e less =
    let l = leaves s [] [] xs p is in
    let r = less p.1 p.2 (l.less e) l.between in
    (p.0 ∷ r.0, (r.1.0, r.1.1, (p, is, refl, r.1.2), r.1.3))

-- the records of a text, from a state between two records
rows_of : (n : ℕ) (s : State) (xs : List ℕ) → length xs < n → ends_at_end s ≡ false → Has s xs
rows_of zero s xs h e = absurd (omega (arith, h))
rows_of (suc n) s xs h e = rows_case s xs _ refl e (λ t ys less rest. rows_of n t ys (omega (arith, less, h)) rest)

pub some_rows : (text : List ℕ) → (rows : Rows) × Are text rows
some_rows text = rows_of (length (strip_bom text) + 1) st.StartRecord (strip_bom text) (omega arith) refl

same_case : (s : State) (xs : List ℕ) (one two : Rows) (o : Option Read) → next_record default_config s [] [] xs ≡ o → AreRecords default_config s xs one → AreRecords default_config s xs two
    → ((t : State) (ys : List ℕ) (more others : Rows) → length more < length one → AreRecords default_config t ys more → AreRecords default_config t ys others → more ≡ others) → one ≡ two
same_case s xs one two None is h k less = are-none s xs one h is ∙ sym (are-none s xs two k is)
same_case s xs one two (Some p) is h k less =
    let a = are-some s xs one p h is in
    let b = are-some s xs two p k is in
    let shorter : length a.0 < length one = omega (arith, ap length a.1) in
    a.1 ∙ ap (λ rest. p.0 ∷ rest) (less p.1 p.2 a.0 b.0 shorter a.2 b.2) ∙ sym b.1

same_from : (n : ℕ) (s : State) (xs : List ℕ) (one two : Rows) → length one < n → AreRecords default_config s xs one → AreRecords default_config s xs two → one ≡ two
same_from zero s xs one two l h k = absurd (omega (arith, l))
same_from (suc n) s xs one two l h k = same_case s xs one two _ refl h k (λ t ys more others less a b. same_from n t ys more others (omega (arith, less, l)) a b)

pub same_rows : (text : List ℕ) (one two : Rows) → Are text one → Are text two → one ≡ two
same_rows text one two h k = same_from (length one + 1) st.StartRecord (strip_bom text) one two (omega arith) h k
