-- The lines of texts that were read whole.
use Rattle.std.proofs.Common.{◌≡◌, ◌≤◌, ◌<◌, ◌^◌, ◌+◌, ℕ, suc, List, [], ◌∷◌, ◌++◌, length, map, Option, Some, None, refl, sym, ◌∙◌, ap, subst, arith, length-append}
use Rattle.std.proofs.lemmas.List.{append-nil}
use Rattle.std.specs.List.{AllByRecursion}
use Rattle.std.specs.Io.KnownBytes.{Consumes, IsAtEnd}
use Rattle.pcg_base.specs.declared.reading.StreamEnd.{StreamEnd}
use Rattle.pcg_base.specs.declared.reading.StreamEnd.TheVariants as ends
use Rattle.request_lines.specs.Lines.{lines_of}
use Rattle.stream_lines.specs.declared.reading.StreamLines.{StreamLines}
use Rattle.stream_lines.specs.Streams.{AreTexts, EndsIn, HasLines}
use Rattle.session_results.specs.Ended.{AreLines, Source}
use Rattle.trials.specs.Starts.{AreWhole, IsWhole}

-- all of a text was taken, if none is left
taken_all : (text taken : List ℕ) (left' : Option (List ℕ)) → Consumes (Some text) left' taken → IsAtEnd left' → text ≡ taken
taken_all text taken None c e = absurd c
taken_all text taken (Some rest) c e = c ∙ ap (λ l. taken ++ l) e ∙ append-nil taken

no_longer : (text taken : List ℕ) (left' : Option (List ℕ)) → Consumes (Some text) left' taken → length taken ≤ length text
no_longer text taken None c = absurd c
no_longer text taken (Some rest) c =
    let e : length text ≡ length taken + length rest = ap length c ∙ length-append taken rest in
    omega (arith, e)

-- a text that isn't too long, and whose source didn't fail, was read to its end
pub read_whole : (end : StreamEnd) (text taken : List ℕ) (lines : List (List ℕ)) (left' : Option (List ℕ)) → Consumes (Some text) left' taken → length text ≤ 2 ^ 30
    → EndsIn end taken lines (Some text) left' 0 0 → (lines ≡ lines_of text) × (end ≡ ends.Whole)
read_whole ends.Whole text taken lines left' c short h = (sym h.0 ∙ ap lines_of (sym (taken_all text taken left' c h.1)), refl)
read_whole ends.Broken text taken lines left' c short h =
    let rose = h.1 in
    absurd (omega (arith, rose))
read_whole ends.TooLong text taken lines left' c short h =
    let more = h.1 in
    let few = no_longer text taken left' c in
    absurd (omega (arith, more, few, short))

pub is_whole : (text : List ℕ) (left' : Option (List ℕ)) (r : StreamLines) → HasLines (Some text) left' 0 0 r.lines.items r.end → length text ≤ 2 ^ 30 → length r.lines.items < 2 ^ 32 → IsWhole text r
is_whole text left' r h short few =
    let whole = read_whole r.end text h.taken h.lines left' h.consumed short h.ends in
    record { lines = subst (AreTexts r.lines.items) whole.0 h.kept; ending = whole.1; few = few; short = short }

-- a source of a text, before it was read and behind it
abbrev pub whole : List ℕ → Source
whole text = record { left = Some text; left' = Some []; faults = 0; faults' = 0 }

has_lines : (text : List ℕ) (r : StreamLines) → IsWhole text r → HasLines (Some text) (Some []) 0 0 r.lines.items r.end
has_lines text r w = record {
  taken = text;
  consumed = sym (append-nil text);
  lines = lines_of text;
  kept = w.lines;
  ends = subst (λ e. EndsIn e text (lines_of text) (Some text) (Some []) 0 0) (sym w.ending) (refl, refl, refl);
}

pub whole_more : (texts : List (List ℕ)) (rs : List StreamLines) (text : List ℕ) (r : StreamLines) → AreWhole texts rs → IsWhole text r → AreWhole (texts ++ text ∷ []) (rs ++ r ∷ [])
whole_more [] [] text r h w = (w, tt)
whole_more [] (s ∷ rs) text r h w = absurd h
whole_more (t ∷ texts) [] text r h w = absurd h
whole_more (t ∷ texts) (s ∷ rs) text r h w = (h.0, whole_more texts rs text r h.1 w)

pub whole_count : (texts : List (List ℕ)) (rs : List StreamLines) → AreWhole texts rs → length rs ≡ length texts
whole_count [] [] h = refl
whole_count [] (s ∷ rs) h = absurd h
whole_count (t ∷ texts) [] h = absurd h
whole_count (t ∷ texts) (s ∷ rs) h = ap suc (whole_count texts rs h.1)

pub whole_few : (texts : List (List ℕ)) (rs : List StreamLines) → AreWhole texts rs → AllByRecursion (λ r. length r.lines.items < 2 ^ 32) rs
whole_few [] [] h = tt
whole_few [] (s ∷ rs) h = absurd h
whole_few (t ∷ texts) [] h = absurd h
whole_few (t ∷ texts) (s ∷ rs) h = (h.0.few, whole_few texts rs h.1)

pub whole_lines : (texts : List (List ℕ)) (rs : List StreamLines) → AreWhole texts rs → AreLines (map whole texts) rs
whole_lines [] [] h = tt
whole_lines [] (s ∷ rs) h = absurd h
whole_lines (t ∷ texts) [] h = absurd h
whole_lines (t ∷ texts) (s ∷ rs) h = (has_lines t s h.0, whole_lines texts rs h.1)
