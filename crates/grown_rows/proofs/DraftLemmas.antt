-- A whole growth is a draft of its records.
use Rattle.std.proofs.Common.{◌≡◌, ℕ, ◌+◌, ◌*◌, ◌<◌, ◌≤◌, List, [], ◌∷◌, ◌++◌, length, map, take, drop, sym, ◌∙◌, ap, subst, arith, append_assoc, append-nil, take-add, length-append}
use Rattle.std.specs.List.{AllByRecursion, concat}
use Rattle.std.proofs.lemmas.List.Folds.{concat-append}
use Rattle.record_rows.specs.Rows.{Row}
use Rattle.record_rows.specs.Words.{words_of}
use Rattle.record_rows.specs.Growth.{stored}
use Rattle.record_rows.proofs.TellLemmas.{length-words_of}
use Rattle.row_words.specs.declared.draft.DraftLink.{DraftLink}
use Rattle.row_words.specs.Drafts.{DraftRows, store_of}
use Rattle.grown_rows.specs.Growths.{Grown, grown_of, grown, IsFilled, IsGrowth, Once}
use Rattle.row_append.specs.Ends.{IsHeaded}
use Rattle.grown_rows.specs.Drafted.{Fills, IsDrafted}
use Rattle.grown_rows.proofs.FillLemmas.{headed_length, more_length}

-- one more record
pub concat_row : (rows : List (List ℕ)) (row front words : List ℕ) (k : ℕ) → concat rows ≡ front ++ take (8 * k) words → row ≡ take 8 (drop (8 * k) words) → concat (rows ++ row ∷ []) ≡ front ++ take (8 * (k + 1)) words
concat_row rows row front words k e f =
    let n : 8 * k + 8 ≡ 8 * (k + 1) = omega arith in
    concat-append rows (row ∷ []) ∙ (ap (λ ws. concat rows ++ ws) (append-nil row) ∙ (ap (λ ws. ws ++ row) e ∙ (append_assoc front (take (8 * k) words) row
    ∙ ap (λ ws. front ++ ws) (ap (λ ws. take (8 * k) words ++ ws) f ∙ (sym (take-add (8 * k) 8 words) ∙ ap (λ m. take m words) n)))))

module _ (old more : List Row) (g : Grown) (is : IsGrowth old more g) where
  all_fill : (links : List DraftLink) → AllByRecursion (IsFilled (words_of old) g.tail (grown g (words_of old))) links → AllByRecursion (Fills (words_of old) (length old) (length more)) links
  all_fill [] a = tt
  all_fill (x ∷ links) a =
      let t = headed_length old more g is in
      let n : length (grown g (words_of old)) ≡ 8 * length (old ++ more) = ap length is.stands ∙ length-words_of (old ++ more) in
      let m : length (old ++ more) ≡ length old + length more = length-append old more in
      let b : 8 * x.to < length (grown g (words_of old)) = a.0.2 in
      ((a.0.0, subst (λ k. k ≤ x.to) t a.0.1, omega arith), all_fill links a.1)

  pub is_drafted : (d : DraftRows) → d.tail ≡ g.tail → concat d.rows ≡ g.more → 8 * length d.rows ≡ length g.more → d.links ≡ g.links → IsDrafted old more d
  is_drafted d t r c l = record {
    tail = t ∙ headed_length old more g is;
    count = (let n = more_length old more g is in omega arith);
    fills = subst (AllByRecursion (Fills (words_of old) (length old) (length more))) (sym l) (all_fill g.links is.held.filled);
    differ = subst (λ links. Once (map store_of links)) (sym l) is.held.differ;
    grown = ap (λ links. stored (map store_of links) (words_of old) ++ concat d.rows) l ∙ (ap (λ ws. stored (map store_of g.links) (words_of old) ++ ws) r ∙ is.stands);
  }

-- nothing is put yet
pub begun : (old : List Row) (tail : ℕ) → IsHeaded old → tail ≡ length old → IsGrowth old [] (grown_of tail [] [])
unfolding stored
begun old tail h e = record {
  headed = h;
  held = record {
    some = subst (λ n. 1 ≤ n) (sym e) (subst (λ rs. 1 ≤ length rs) (sym h.begins) (omega arith));
    tail = length-words_of old ∙ ap (λ n. 8 * n) (sym e);
    filled = tt;
    differ = tt;
  };
  stands = append-nil (words_of old) ∙ ap words_of (sym (append-nil old));
}
