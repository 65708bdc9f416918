use Rattle.std.proofs.Common.{◌≡◌, ◌∙◌, ℕ, zero, suc, ◌+◌, ◌<◌, List, [], ◌∷◌, ◌++◌, map, take, length, get_or, Bool, true, false, cond, ◌&&◌, Some, None, refl, sym, ap, ap₂, arith, Bor, Vec, Global}
use Rattle.std.specs.List.{list_all}
use Rattle.std.specs.Str.{IsUtf8, is_utf8}
use Rattle.std.proofs.lemmas.List.{map-append, take_more}
use Rattle.std.proofs.lemmas.List.Folds.{list_all-append}
use Rattle.std.proofs.lemmas.Str.{is_utf8-from_IsUtf8, IsUtf8-from_is_utf8}
use Rattle.clap.specs.Walk.{texts}
use Rattle.option_words.specs.Grammar.{only_if}

pub is_text : (text : List ℕ) → IsUtf8 text → is_utf8 text ≡ true
is_text text h = is_utf8-from_IsUtf8 text h

no_case : (text : List ℕ) (b : Bool) → is_utf8 text ≡ b → ¬ (IsUtf8 text) → b ≡ false
no_case text true e h = absurd (h (IsUtf8-from_is_utf8 text e))
no_case text false e h = refl

pub is_no_text : (text : List ℕ) → ¬ (IsUtf8 text) → is_utf8 text ≡ false
is_no_text text h = no_case text (is_utf8 text) refl h

abbrev bytes_of : List (Vec ℕ Global) → List (List ℕ)
bytes_of words = map (λ (w : Vec ℕ Global). w.items) words

taken : (x t : List ℕ) (b : Bool) → is_utf8 x ≡ b → Some t ≡ cond b (Some x) None → (is_utf8 x ≡ true) × (t ≡ x)
taken x t true e h = (e, cc h)
taken x t false e h = cc h

refused : (x : List ℕ) (b : Bool) → is_utf8 x ≡ b → None ≡ cond b (Some x) None → is_utf8 x ≡ false
refused x true e h = cc h
refused x false e h = e

pub next_text : (words : List (Vec ℕ Global)) (i : ℕ) (w : Vec ℕ Global) (list after : List (Bor (List ℕ))) (t : Bor (List ℕ)) → after ≡ list ++ t ∷ [] → i < length words → w ≡ get_or words i w → Some t.now ≡ only_if is_utf8 w.items
    → (texts list ≡ bytes_of (take i words)) × (list_all is_utf8 (bytes_of (take i words)) ≡ true)
    → (texts after ≡ bytes_of (take (i + 1) words)) × (list_all is_utf8 (bytes_of (take (i + 1) words)) ≡ true)
next_text words i w list after t pushed lt at h before =
    let here = taken w.items t.now (is_utf8 w.items) refl h in
    let more : bytes_of (take (i + 1) words) ≡ bytes_of (take i words) ++ w.items ∷ [] =
    ap bytes_of (take_more words i w lt ∙ ap (λ x. take i words ++ x ∷ []) (sym at)) ∙ map-append (λ (w : Vec ℕ Global). w.items) (take i words) (w ∷ []) in (
      ap texts pushed ∙ map-append (λ (s : Bor (List ℕ)). s.now) list (t ∷ []) ∙ ap₂ (λ xs x. xs ++ x ∷ []) before.0 here.1 ∙ sym more,
      ap (list_all is_utf8) more ∙ list_all-append is_utf8 (bytes_of (take i words)) (w.items ∷ []) ∙ ap₂ (λ a b. a && (b && true)) before.1 here.0,
    )

bad_at : (words : List (Vec ℕ Global)) (i : ℕ) (d : Vec ℕ Global) → i < length words → is_utf8 (get_or words i d).items ≡ false → list_all is_utf8 (bytes_of words) ≡ false
bad_at [] i d lt e = absurd (omega arith)
bad_at (w ∷ words) zero d lt e = ap (λ b. b && list_all is_utf8 (bytes_of words)) e
bad_at (w ∷ words) (suc i) d lt e = ap (λ b. is_utf8 w.items && b) (bad_at words i d (omega arith) e) ∙ no (is_utf8 w.items)
  where
    no : (b : Bool) → (b && false) ≡ false
    no true = refl
    no false = refl

pub bad_text : (words : List (Vec ℕ Global)) (i : ℕ) (w : Vec ℕ Global) → i < length words → w ≡ get_or words i w → None ≡ only_if is_utf8 w.items → only_if (list_all is_utf8) (bytes_of words) ≡ None
bad_text words i w lt at h =
    let bad : is_utf8 (get_or words i w).items ≡ false = ap (λ (x : Vec ℕ Global). is_utf8 x.items) (sym at) ∙ refused w.items (is_utf8 w.items) refl h in
    ap (λ b. cond b (Some (bytes_of words)) None) (bad_at words i w lt bad)
