-- What the loops over a draft keep: the pointers so far are filled, and the records so far stand behind the words.
use Rattle.std.proofs.Common.{◌≡◌, ℕ, ◌+◌, ◌*◌, List, [], ◌∷◌, ◌++◌, length, map, take, set, Some, refl, sym, ◌∙◌, ap, append_assoc, append-nil}
use Rattle.std.specs.List.{slice_get, concat}
use Rattle.std.proofs.lemmas.List.{take_more, map-append}
use Rattle.std.proofs.lemmas.List.Folds.{concat-append}
use Rattle.std.proofs.lemmas.Option.{slice_get_within, get_or_from_slice_get}
use Rattle.record_rows.specs.Growth.{Store, stored}
use Rattle.record_rows.proofs.StoreLemmas.{length-stored}
use Rattle.row_words.specs.declared.draft.DraftLink.{DraftLink}
use Rattle.row_words.specs.Drafts.{store_of}

take_got : {X : Type 0} (xs : List X) (k : ℕ) (x : X) → slice_get xs k ≡ Some x → take (k + 1) xs ≡ take k xs ++ x ∷ []
take_got xs k x h = take_more xs k x (slice_get_within xs k x h) ∙ ap (λ y. take k xs ++ y ∷ []) (get_or_from_slice_get xs k x x h)

stored-append : (xs ys : List Store) (words : List ℕ) → stored (xs ++ ys) words ≡ stored ys (stored xs words)
unfolding stored
stored-append [] ys words = refl
stored-append (x ∷ xs) ys words = stored-append xs ys (set words x.word x.value)

-- no pointer is filled yet
pub none_stored : (words : List ℕ) → stored [] words ≡ words
unfolding stored
none_stored words = refl

-- one more pointer is filled
pub stored_more : (links : List DraftLink) (k : ℕ) (link : DraftLink) (words : List ℕ) → slice_get links k ≡ Some link
    → set (stored (map store_of (take k links)) words) (8 * link.from + link.k) link.to ≡ stored (map store_of (take (k + 1) links)) words
unfolding stored
stored_more links k link words h =
    sym (ap (λ ls. stored (map store_of ls) words) (take_got links k link h)
    ∙ ap (λ stores. stored stores words) (map-append store_of (take k links) (link ∷ []))
    ∙ stored-append (map store_of (take k links)) (store_of link ∷ []) words)

-- there are as many words as before
pub as_long : (stores : List Store) (words : List ℕ) → length (stored stores words) ≡ length words
as_long = length-stored

-- one more record stands behind
pub concat_more : (rows : List (List ℕ)) (k : ℕ) (row words : List ℕ) → slice_get rows k ≡ Some row → (words ++ concat (take k rows)) ++ row ≡ words ++ concat (take (k + 1) rows)
concat_more rows k row words h =
    append_assoc words (concat (take k rows)) row
    ∙ ap (λ ws. words ++ ws) (ap (λ ws. concat (take k rows) ++ ws) (sym (append-nil row)) ∙ sym (ap concat (take_got rows k row h) ∙ concat-append (take k rows) (row ∷ [])))
