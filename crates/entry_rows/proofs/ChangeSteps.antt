-- One more change.
use Rattle.std.proofs.Common.{◌≡◌, ℕ, zero, suc, ◌+◌, ◌*◌, ◌<◌, Bool, true, false, ◌||◌, List, [], ◌∷◌, ◌++◌, length, length-append, map, take, get_or, Option, Some, None, refl, sym, ◌∙◌, ap, subst, arith, append_assoc, append-nil}
use Rattle.std.specs.List.{slice_get, list_any}
use Rattle.std.specs.Option.{IfSome}
use Rattle.std.proofs.lemmas.Option.{slice_get-get_or, slice_get_within}
use Rattle.op_model.specs.declared.base.Pair.{Pair}
use Rattle.op_model.specs.Edges.{same_pair}
use Rattle.record_rows.specs.Rows.{Row, ChangeRow}
use Rattle.record_rows.specs.Chains.{is_edge, change_of}
use Rattle.record_rows.specs.Words.{place_from}
use Rattle.record_rows.proofs.TellLemmas.{length-words_of}
use Rattle.row_append.specs.Ends.{IsHeaded}
use Rattle.row_append.specs.Tails.{word_number}
use Rattle.row_append.proofs.EndLaws.{headers_stay}
use Rattle.row_append.proofs.FoundLemmas.{found_stays}
use Rattle.row_append.proofs.Leaving.{or_none}
use Rattle.grown_rows.specs.Growths.{Grown, IsGrowth, IsTail, IsWithin}
use Rattle.grown_rows.specs.Aimed.{ChangesEnd, ChangesEndAt}
use Rattle.grown_rows.proofs.EndLemmas.{changes_stay}
use Rattle.entry_rows.specs.declared.changes.EntryChange.{EntryChange}
use Rattle.entry_rows.specs.Changes.{IsAtChange, AreChanges}
use Rattle.entry_rows.proofs.EdgeSteps.{words_count}

-- records that are neither an edge nor a change of a pair leave it where the pair's changes end
pub changes_stay_over : (rows more : List Row) (p : Pair) (word : ℕ) → IsHeaded rows → ChangesEndAt p rows word → list_any (is_edge p) more ≡ false → list_any (change_of p) more ≡ false → ChangesEndAt p (rows ++ more) word
changes_stay_over rows [] p word h e ne nc = subst (λ rs. ChangesEndAt p rs word) (sym (append-nil rows)) e
changes_stay_over rows (r ∷ more) p word h e ne nc =
    let a = or_none (is_edge p r) (list_any (is_edge p) more) ne in
    let b = or_none (change_of p r) (list_any (change_of p) more) nc in
    subst (λ rs. ChangesEndAt p rs word) (append_assoc rows (r ∷ []) more)
    (changes_stay_over (rows ++ r ∷ []) more p word (headers_stay rows (r ∷ []) h) (changes_stay rows r p word h e a.0 b.0) a.1 b.1)

-- the records of changes
abbrev pub rows_by : ℕ → List EntryChange → List Row
rows_by entry xs = map (λ (x : EntryChange). ChangeRow entry x.changed) xs

no_edge : (p : Pair) (entry : ℕ) (xs : List EntryChange) → list_any (is_edge p) (rows_by entry xs) ≡ false
unfolding is_edge
no_edge p entry [] = refl
no_edge p entry (x ∷ xs) = no_edge p entry xs

none_earlier : (p : Pair) (entry k : ℕ) (xs : List EntryChange) → ((i : ℕ) (y : EntryChange) → i < k → slice_get xs i ≡ Some y → same_pair y.changed.pair p ≡ true → ⊥)
    → list_any (change_of p) (rows_by entry (take k xs)) ≡ false
unfolding change_of
none_earlier p entry zero xs f = refl
none_earlier p entry (suc k) [] f = refl
none_earlier p entry (suc k) (x ∷ xs) f = go (same_pair x.changed.pair p) refl (none_earlier p entry k xs (λ i y l. f (suc i) y (omega arith)))
  where
    go : (b : Bool) → same_pair x.changed.pair p ≡ b → list_any (change_of p) (rows_by entry (take k xs)) ≡ false → (b || list_any (change_of p) (rows_by entry (take k xs))) ≡ false
    go true e n = absurd (f 0 x (omega arith) refl e)
    go false e n = n

pub got_change : (xs : List EntryChange) (i : ℕ) (x : EntryChange) → i < length xs → x ≡ get_or xs i x → slice_get xs i ≡ Some x
got_change xs i x l e = slice_get-get_or xs i x l ∙ ap (λ y. Some y) (sym e)

-- what the next change's record needs holds still behind the changes before it
module _ (old more : List Row) (entry k : ℕ) (xs : List EntryChange) (x : EntryChange) (headed : IsHeaded old) (are : AreChanges (old ++ more) xs) (here : slice_get xs k ≡ Some x) where
  abbrev rows : List Row
  rows = old ++ (more ++ rows_by entry (take k xs))

  whole : (old ++ more) ++ rows_by entry (take k xs) ≡ rows
  whole = append_assoc old more (rows_by entry (take k xs))

  is : IsAtChange (old ++ more) x
  is = are.each k x here

  pub edge_found : place_from (is_edge x.changed.pair) 0 (old ++ (more ++ rows_by entry (take k xs))) ≡ x.edge
  edge_found =
      ap (place_from (is_edge x.changed.pair) 0) (sym whole)
      ∙ (found_stays (is_edge x.changed.pair) (old ++ more) (rows_by entry (take k xs)) (subst (λ n. 0 < n) (sym is.edge) is.behind) ∙ is.edge)

  pub ends_there : ChangesEndAt x.changed.pair (old ++ (more ++ rows_by entry (take k xs))) (word_number x.last)
  ends_there =
      subst (λ rs. ChangesEndAt x.changed.pair rs (word_number x.last)) whole
      (changes_stay_over (old ++ more) (rows_by entry (take k xs)) x.changed.pair (word_number x.last) (headers_stay old more headed) is.ends (no_edge x.changed.pair entry (take k xs))
      (none_earlier x.changed.pair entry k xs (λ i y l h s. let q : i ≡ k = are.differ i k y x h here s in omega arith)))

  pub tail_there : (g : Grown) → IsGrowth old (more ++ rows_by entry (take k xs)) g → IsTail g x.last
  tail_there g growth =
      let a = ends_there.along in
      let l : a.place < length rows = slice_get_within rows a.place a.row a.there in
      let p = a.pointer in
      let n : word_number x.last ≡ 8 * a.place + (4 + a.k) = a.number in
      let c = words_count old (more ++ rows_by entry (take k xs)) g growth in
      let w = length-words_of rows in
      (is.pointer, is.in_record, omega (arith, l, p, n, c, w))

-- the last change's record is there
pub change_within : (old more : List Row) (g : Grown) (n : ℕ) (before : Option ℕ) → IsGrowth old more g → ChangesEnd n (old ++ more) before → IfSome before (IsWithin g)
change_within old more g n None is e = tt
change_within old more g n (Some p) is e =
    let c = words_count old more g is in
    let w = length-words_of (old ++ more) in
    let l : length (old ++ more) ≡ length e.0 + 1 = ap length e.3 ∙ length-append e.0 (ChangeRow n e.1 ∷ []) in
    let q : p ≡ length e.0 = e.4 in
    omega arith

-- the changes end at the new one
pub changes_end_here : (old more : List Row) (g : Grown) (n p : ℕ) (x : EntryChange) → IsGrowth old more g → p ≡ length (old ++ more) → ChangesEnd n (old ++ (more ++ ChangeRow n x.changed ∷ [])) (Some p)
changes_end_here old more g n p x is q = (old ++ more, x.changed, headers_stay old more is.headed, sym (append_assoc old more (ChangeRow n x.changed ∷ [])), q)
