-- One record behind the others: which empty pointers it fills.
use Rattle.std.proofs.Common.{◌≡◌, ℕ, zero, suc, ◌+◌, ◌-◌, ◌*◌, ◌/◌, ◌%◌, ◌<◌, ◌≤◌, Bool, true, false, cond, eqb, leb, List, [], ◌∷◌, ◌++◌, length, get_or, Option, Some, None, refl, sym, ◌∙◌, ap, ap₂, subst, inl, inr, ◌⊎◌, arith, append-nil}
use Rattle.std.specs.List.{slice_get, AllByRecursion, list_any}
use Rattle.std.proofs.lemmas.Bool.{eq-eqb, cases_Bool, leb-true, leb-false, or_left, or_right}
use Rattle.std.proofs.Math.Dec.{eqb-suc-zero}
use Rattle.std.proofs.lemmas.Option.{slice_get-get_or}
use Rattle.op_model.specs.declared.base.Dataset.{Dataset}
use Rattle.record_rows.specs.Rows.{Row, HeaderRow, SupervoxelRow, ChunkRow, NodeRow, LinkRow, EdgeRow, ChangeRow, ItemRow, EntryRow}
use Rattle.record_rows.specs.Chains.{Aim, Nowhere, aims}
use Rattle.record_rows.specs.Words.{place_from, row_words, words_from, words_of}
use Rattle.record_rows.specs.Growth.{Store, new_place, filled, stored, names_word}
use Rattle.record_rows.proofs.GrowthLemmas.{grown_fixed, grown_pointer}
use Rattle.record_rows.proofs.StoreLemmas.{AllWanted, stored-words_of}
use Rattle.row_append.specs.Ends.{Chain, belongs, along, IsAlong, EndsAt}

-- what a new record does to an empty pointer: along a chain it is filled if the record belongs to the chain; any other stays empty
abbrev pub Fills : ℕ → Row → List (Option Chain) → List Aim → Type 0
Fills tail row [] [] = Unit {0}
Fills tail row (Some c ∷ cs) (aim ∷ aimed) = (new_place tail (row ∷ []) aim ≡ cond (belongs c row) tail 0) × Fills tail row cs aimed
Fills tail row (None ∷ cs) (aim ∷ aimed) = Fills tail row cs aimed
Fills tail row cs aimed = ⊥

fills : (tail : ℕ) (row r : Row) → Fills tail row (along r) (aims r)
unfolding along aims new_place place_from belongs
fills tail row (HeaderRow d s c) = tt
fills tail row (SupervoxelRow v) = (refl, (refl, tt))
fills tail row (ChunkRow c) = (refl, tt)
fills tail row (NodeRow n) = (refl, (refl, (refl, tt)))
fills tail row (LinkRow l) = (refl, (refl, tt))
fills tail row (EdgeRow made e) = (refl, (refl, tt))
fills tail row (ChangeRow entry c) = tt
fills tail row (ItemRow i) = tt
fills tail row (EntryRow e) = tt

-- the other pointers of a record stay empty
abbrev pub Leaves : ℕ → Row → List (Option Chain) → List Aim → Type 0
Leaves tail row [] [] = Unit {0}
Leaves tail row (Some c ∷ cs) (aim ∷ aimed) = Leaves tail row cs aimed
Leaves tail row (None ∷ cs) (aim ∷ aimed) = (new_place tail (row ∷ []) aim ≡ 0) × Leaves tail row cs aimed
Leaves tail row cs aimed = ⊥

fill_at : (tail : ℕ) (row : Row) (cs : List (Option Chain)) (aimed : List Aim) (k : ℕ) (c : Chain) → Fills tail row cs aimed → get_or cs k None ≡ Some c
    → new_place tail (row ∷ []) (get_or aimed k Nowhere) ≡ cond (belongs c row) tail 0
fill_at tail row [] aimed k c f e = cc
fill_at tail row (o ∷ cs) [] k c f e = absurd (gone o f)
  where
    gone : (o : Option Chain) → Fills tail row (o ∷ cs) [] → ⊥
    gone None f = f
    gone (Some c) f = f
fill_at tail row (None ∷ cs) (aim ∷ aimed) zero c f e = cc
fill_at tail row (Some b ∷ cs) (aim ∷ aimed) zero c f e = let q : b ≡ c = cc in subst (λ x. new_place tail (row ∷ []) aim ≡ cond (belongs x row) tail 0) q f.0
fill_at tail row (None ∷ cs) (aim ∷ aimed) (suc k) c f e = fill_at tail row cs aimed k c f e
fill_at tail row (Some b ∷ cs) (aim ∷ aimed) (suc k) c f e = fill_at tail row cs aimed k c f.1 e

leave_at : (tail : ℕ) (row : Row) (cs : List (Option Chain)) (aimed : List Aim) (k : ℕ) → Leaves tail row cs aimed → get_or cs k None ≡ None
    → new_place tail (row ∷ []) (get_or aimed k Nowhere) ≡ 0
unfolding new_place
leave_at tail row [] [] k f e = refl
leave_at tail row [] (aim ∷ aimed) k f e = absurd f
leave_at tail row (o ∷ cs) [] k f e = absurd (gone o f)
  where
    gone : (o : Option Chain) → Leaves tail row (o ∷ cs) [] → ⊥
    gone None f = f
    gone (Some c) f = f
leave_at tail row (None ∷ cs) (aim ∷ aimed) zero f e = f.0
leave_at tail row (Some b ∷ cs) (aim ∷ aimed) zero f e = cc
leave_at tail row (None ∷ cs) (aim ∷ aimed) (suc k) f e = leave_at tail row cs aimed k f.1 e
leave_at tail row (Some b ∷ cs) (aim ∷ aimed) (suc k) f e = leave_at tail row cs aimed k f e

filled_some : (pointer place : ℕ) → filled (suc pointer) place ≡ suc pointer
unfolding filled
filled_some pointer place = rw (eqb-suc-zero pointer) refl

-- a chain that the new record belongs to, and the word where it ended
pub record End : Type 0 where
  pub chain : Chain
  pub word : ℕ

unfoldable pub stores_of : ℕ → List End → List Store
stores_of tail [] = []
stores_of tail (e ∷ ends) = record { word = e.word; value = tail } ∷ stores_of tail ends

abbrev pub Among : Chain → List End → Type 0
Among c [] = ⊥
Among c (e ∷ ends) = (c ≡ e.chain) ⊎ Among c ends

module _ (d : Dataset) (s c : ℕ) (rest : List Row) (row : Row) where
  abbrev old : List Row
  old = HeaderRow d s c ∷ rest

  abbrev tail : ℕ
  tail = length (HeaderRow d s c ∷ rest)

  abbrev Ended : End → Type 0
  Ended e = EndsAt e.chain old e.word × (belongs e.chain row ≡ true)

  -- a pointer along a chain, with the new record behind
  pub grown_along : (chain : Chain) (i : ℕ) → IsAlong chain old i → get_or (words_of (old ++ row ∷ [])) i 0 ≡ filled (get_or (words_of old) i 0) (cond (belongs chain row) tail 0)
  grown_along chain i a =
      ap (λ j. get_or (words_of (old ++ row ∷ [])) j 0) a.number
      ∙ grown_pointer d s c rest (row ∷ []) a.place a.k a.row a.there a.pointer
      ∙ ap₂ filled (ap (λ j. get_or (words_of old) j 0) (sym a.number)) (fill_at tail row (along a.row) (aims a.row) a.k chain (fills tail row a.row) a.leads)

  wanted : (ends : List End) → AllByRecursion Ended ends → AllWanted (words_of (old ++ row ∷ [])) (stores_of tail ends)
  unfolding stores_of filled
  wanted [] all = tt
  wanted (e ∷ ends) all =
      (grown_along e.chain e.word all.0.0.along ∙ ap₂ filled all.0.0.empty (ap (λ b. cond b tail 0) all.0.1), wanted ends all.1)

  named : (ends : List End) → AllByRecursion Ended ends → (chain : Chain) → Among chain ends → (i : ℕ) → IsAlong chain old i → get_or (words_of old) i 0 ≡ 0 → names_word (stores_of tail ends) i ≡ true
  unfolding names_word stores_of
  named [] all chain m i a z = absurd m
  named (e ∷ ends) all chain (inl q) i a z =
      or_left (eqb e.word i) (list_any (λ t. eqb t.word i) (stores_of tail ends)) (eq-eqb e.word i (sym (all.0.0.only i (subst (λ x. IsAlong x old i) q a) z)))
  named (e ∷ ends) all chain (inr m) i a z =
      or_right (eqb e.word i) (list_any (λ t. eqb t.word i) (stores_of tail ends)) (named ends all.1 chain m i a z)

  -- a word of the old records stays, or a store names it
  Covered : List End → ℕ → Type 0
  Covered ends i = (get_or (words_of old) i 0 ≡ get_or (words_of (old ++ row ∷ [])) i 0) ⊎ (names_word (stores_of tail ends) i ≡ true)

  module _ (others : (p : ℕ) (r : Row) → slice_get old p ≡ Some r → Leaves tail row (along r) (aims r)) (ends : List End) (all : AllByRecursion Ended ends)
      (among : (chain : Chain) → belongs chain row ≡ true → Among chain ends) where
    pointer_covered : (p k : ℕ) (r : Row) → slice_get old p ≡ Some r → k < 4 → (i : ℕ) → i ≡ 8 * p + (4 + k) → Covered ends i
    unfolding Covered filled
    pointer_covered p k r h l i n = go (get_or (words_of old) i 0) refl (get_or (along r) k None) refl
      where
        grown : get_or (words_of (old ++ row ∷ [])) i 0 ≡ filled (get_or (words_of old) i 0) (new_place tail (row ∷ []) (get_or (aims r) k Nowhere))
        grown = subst (λ j. get_or (words_of (old ++ row ∷ [])) j 0 ≡ filled (get_or (words_of old) j 0) (new_place tail (row ∷ []) (get_or (aims r) k Nowhere))) (sym n) (grown_pointer d s c rest (row ∷ []) p k r h l)

        member : (chain : Chain) → get_or (along r) k None ≡ Some chain → (b : Bool) → belongs chain row ≡ b → get_or (words_of old) i 0 ≡ 0 → Covered ends i
        member chain e true t z = inr (named ends all chain (among chain t) i (record { place = p; k = k; row = r; there = h; pointer = l; leads = e; number = n }) z)
        member chain e false t z = inl (z ∙ sym (grown ∙ ap₂ filled z (fill_at tail row (along r) (aims r) k chain (fills tail row r) e ∙ ap (λ b. cond b tail 0) t)))

        go : (w : ℕ) → get_or (words_of old) i 0 ≡ w → (o : Option Chain) → get_or (along r) k None ≡ o → Covered ends i
        go (suc w) z o e = inl (sym (grown ∙ ap (λ x. filled x (new_place tail (row ∷ []) (get_or (aims r) k Nowhere))) z ∙ (filled_some w (new_place tail (row ∷ []) (get_or (aims r) k Nowhere)) ∙ sym z)))
        go zero z None e = inl (z ∙ sym (grown ∙ ap₂ filled z (leave_at tail row (along r) (aims r) k (others p r h) e)))
        go zero z (Some chain) e = member chain e (belongs chain row) refl z

    covered : (i : ℕ) → i < 8 * length old → Covered ends i
    unfolding Covered
    covered i l =
        let p : ℕ = i / 8 in
        let j : ℕ = i % 8 in
        let e : i ≡ 8 * p + j = omega arith in
        let r : Row = get_or old p row in
        let h : slice_get old p ≡ Some r = slice_get-get_or old p row (omega arith) in
        elim (cases_Bool (leb 4 j)) [
          | inl g ↦
              let m : 4 ≤ j = leb-true 4 j g in
              let f : i ≡ 8 * p + (4 + (j - 4)) = omega arith in
              subst (Covered ends) (sym f) (pointer_covered p (j - 4) r h (omega arith) (8 * p + (4 + (j - 4))) refl)
          | inr g ↦
              let m : j < 4 = leb-false 4 j g in
              inl (subst (λ x. get_or (words_of old) x 0 ≡ get_or (words_of (old ++ row ∷ [])) x 0) (sym e) (sym (grown_fixed d s c rest (row ∷ []) p j r h m)))
        ]

    -- with a store of the new place where each of its chains ended, and the record's own words behind, the words are those of the longer list
    pub pushed : stored (stores_of tail ends) (words_of old) ++ row_words (old ++ row ∷ []) tail row [] ≡ words_of (old ++ row ∷ [])
    unfolding words_from Covered
    pushed =
        ap (λ ws. stored (stores_of tail ends) (words_of old) ++ ws) (sym (append-nil (row_words (old ++ row ∷ []) tail row [])))
        ∙ stored-words_of old (row ∷ []) (stores_of tail ends) (wanted ends all) covered
