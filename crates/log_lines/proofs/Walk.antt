-- What was written of a log, the oldest entries first, while a walk goes over its records.
use Rattle.std.proofs.Common.{◌≡◌, ℕ, ◌+◌, ◌-◌, ◌*◌, ◌/◌, ◌<◌, ◌≤◌, ◌^◌, List, [], ◌∷◌, ◌++◌, length, Option, Some, None, refl, sym, ◌∙◌, ap, subst, inl, inr, ◌⊎◌, arith}
use Rattle.std.specs.Io.KnownBytes.{Appends}
use Rattle.std.proofs.lemmas.Bool.{cases_lt}
use Rattle.std.proofs.lemmas.List.{append_assoc, length-append}
use Rattle.op_model.specs.declared.base.Dataset.{Dataset}
use Rattle.op_model.specs.declared.base.Base.{Base}
use Rattle.op_model.specs.declared.entry.Entry.{Entry}
use Rattle.op_model.specs.Legal.{Legal}
use Rattle.op_model.specs.Operations.{entry_at}
use Rattle.op_model.specs.Records.{records}
use Rattle.op_model.proofs.HistoryLemmas.{legal_prefix}
use Rattle.pcg_base.specs.Told.{AppendsFront}
use Rattle.pcg_base.proofs.Appending.{appends_more}
use Rattle.record_rows.specs.Readings.{ForEachLog, Image}
use Rattle.record_rows.proofs.BaseCounts.{counted}
use Rattle.record_rows.proofs.EntryRecords.{number_told}
use Rattle.record_rows.proofs.ImageFacts.{parent_image}
use Rattle.record_rows.proofs.WalkLemmas.{steps_left}
use Rattle.request_lines.specs.Texts.{text_of_entry}
use Rattle.log_rows.specs.Entries.{HoldsEntry, InEntry, IsNextEntry}
use Rattle.log_rows.proofs.EntryParts.{number_found}
use Rattle.log_rows.proofs.EntryWords.{tells, words_counted}
use Rattle.log_rows.proofs.Seeks.{found_split}
use Rattle.log_rows.proofs.TimePlaces.{own_order, some_entry}
use Rattle.log_rows.proofs.WalkBack.{entry_there}
use Rattle.histories.specs.Histories.{LiveRootsAreCounted, live_roots}
use Rattle.log_lines.specs.declared.writing.RootChange.{RootChange}
use Rattle.log_lines.specs.LogTexts.{IsRootChange, log_text}
use Rattle.log_lines.proofs.RootCounts.{made_few, records_more}
use Rattle.log_lines.proofs.Texts.{front_behind, none_written, text_behind}

-- the record of the entry behind these oldest ones stands at the place; there is no place where these are all
abbrev pub IsAt : Dataset → Base → List Entry → Option ℕ → List Entry → Type 0
IsAt d b log None older = log ≡ older
IsAt d b log (Some p) older = (newer : List Entry) × (e : Entry) × (log ≡ newer ++ e ∷ older) × HoldsEntry d b log p e

-- the oldest entries are written, and their live roots counted
pub record Written (d : Dataset) (b : Base) (log : List Entry) (next : Option ℕ) (roots : ℕ) (held held' : Option (List ℕ)) : Type 0 where
  pub older : List Entry
  pub at : IsAt d b log next older
  pub counts : roots ≡ length (live_roots older)
  pub text : Appends held held' (log_text older)

-- so it is for each log whose image the words are
abbrev pub AllWritten : List ℕ → Option ℕ → ℕ → Option (List ℕ) → Option (List ℕ) → Type 0
AllWritten words next roots held held' = ForEachLog Image words (λ d b log. Written d b log next roots held held')

-- lists that end alike, as to their length, end with the same
same_back : (xs ys zs ws : List Entry) → xs ++ zs ≡ ys ++ ws → length zs ≡ length ws → zs ≡ ws
same_back [] [] zs ws e n = e
same_back [] (y ∷ ys) zs ws e n = let l = ap length e in let m = length-append ys ws in absurd (omega (arith, l, m, n))
same_back (x ∷ xs) [] zs ws e n = let l = ap length e in let m = length-append xs zs in absurd (omega (arith, l, m, n))
same_back (x ∷ xs) (y ∷ ys) zs ws e n = let t : xs ++ zs ≡ ys ++ ws = cc in same_back xs ys zs ws t n

module _ (d : Dataset) (b : Base) (log : List Entry) (words : List ℕ) (i : Image d b log words) where
  -- so many words tell of the records
  pub records_counted : length words / 8 ≡ records d b log
  records_counted =
      let n = words_counted d b log words (parent_image d b log words i) in
      let c = counted d b log i.dataset i.base i.legal in
      omega (arith, n, c)

  -- the walk begins at the first entry, and nothing is written
  pub begun : (p : ℕ) (held : Option (List ℕ)) → ((e : Entry) → entry_at log 0 ≡ Some e → HoldsEntry d b log p e) → Written d b log (Some p) 0 held held
  unfolding live_roots log_text
  begun p held first =
      let x = entry_there d b log 0 i.legal (some_entry d b log i.legal) in
      let s = found_split log 0 x.0 x.1 in
      record { older = []; at = go s.0 x.0 s.1 s.2 (first x.0 x.1) (number_found log 0 x.0 x.1); counts = refl; text = none_written held }
    where
      go : (newer : List Entry) (e : Entry) (older : List Entry) → log ≡ newer ++ e ∷ older → HoldsEntry d b log p e → e.number ≡ 0 → IsAt d b log (Some p) []
      go newer e [] w h n = (newer, e, w, h)
      go newer e (f ∷ older) w h n =
          let m = number_told d b e (f ∷ older) (legal_prefix d b newer e (f ∷ older) (subst (Legal d b) w i.legal)) in
          absurd (omega (arith, m, n))

  -- at the end all is written
  pub ended : (roots : ℕ) (held held' : Option (List ℕ)) → Written d b log None roots held held' → Appends held held' (log_text log) × (roots ≡ length (live_roots log))
  ended roots held held' s = (subst (λ l. Appends held held' (log_text l)) (sym s.at) s.text, s.counts ∙ ap (λ l. length (live_roots l)) (sym s.at))

  module _ (p roots : ℕ) (held held1 : Option (List ℕ)) (s : Written d b log (Some p) roots held held1) where
    -- the entry that the walk is at
    abbrev pub entry_now : Entry
    entry_now = s.at.1

    pub stands_now : HoldsEntry d b log p entry_now
    stands_now = s.at.3

    -- its record stands there
    pub in_entry : InEntry words p
    in_entry = record { dataset = d; base = b; log = log; entry = entry_now; image = i; stands = stands_now }

    legal_now : Legal d b (entry_now ∷ s.older)
    legal_now = legal_prefix d b s.at.0 entry_now s.older (subst (Legal d b) s.at.2 i.legal)

    number_now : entry_now.number ≡ length s.older
    number_now = number_told d b entry_now s.older legal_now

    whole_length : length log ≡ length s.at.0 + (1 + length s.older)
    whole_length = let w = ap length s.at.2 in let a = length-append s.at.0 (entry_now ∷ s.older) in omega (arith, w, a)

    at_next : (next : Option ℕ) → IsNextEntry d b log entry_now next → IsAt d b log next (entry_now ∷ s.older)
    at_next None last = go s.at.0 s.at.2 whole_length
      where
        go : (newer : List Entry) → log ≡ newer ++ entry_now ∷ s.older → length log ≡ length newer + (1 + length s.older) → log ≡ entry_now ∷ s.older
        go [] w n = w
        go (f ∷ newer) w n = let m = number_now in absurd (omega (arith, m, n, last))
    at_next (Some q) (f, found, h) =
        let r = found_split log (entry_now.number + 1) f found in
        let n = number_found log (entry_now.number + 1) f found in
        let m = number_told d b f r.1 (legal_prefix d b r.0 f r.1 (subst (Legal d b) r.2 i.legal)) in
        let k = number_now in
        let back : entry_now ∷ s.older ≡ r.1 =
        same_back s.at.0 (r.0 ++ f ∷ []) (entry_now ∷ s.older) r.1 (sym s.at.2 ∙ r.2 ∙ sym (append_assoc r.0 (f ∷ []) r.1)) (omega (arith, n, m, k)) in
        (r.0, f, r.2 ∙ ap (λ l. r.0 ++ f ∷ l) (sym back), h)

    -- the roots are few enough to be counted
    pub roots_few : (x : RootChange) → IsRootChange entry_now x → roots + x.made < 2 ^ 64
    roots_few x y =
        let m = made_few d b entry_now s.older legal_now in
        let r = subst (λ l. records d b (entry_now ∷ s.older) ≤ records d b l) (sym s.at.2) (records_more d b s.at.0 entry_now s.older) in
        let f = i.fits in
        let c = i.dataset.capacity.1 in
        let n = s.counts in
        let z = y.made in
        omega (arith, m, r, f, c, n, z)

    module _ (laws : LiveRootsAreCounted) (x : RootChange) (change : IsRootChange entry_now x) where
      roots_now : length (live_roots (entry_now ∷ s.older)) + x.retired ≡ roots + x.made
      roots_now =
          let c = laws d b entry_now s.older i.dataset i.base legal_now in
          let m = change.made in
          let r = change.retired in
          let n = s.counts in
          omega (arith, c, m, r, n)

      -- an entry retires no more roots than there are
      pub roots_left : x.retired ≤ roots + x.made
      roots_left = let r = roots_now in omega (arith, r)

      -- one entry more is written
      pub written_on : (next : Option ℕ) (held2 : Option (List ℕ)) → IsNextEntry d b log entry_now next → Appends held1 held2 (text_of_entry entry_now) → Written d b log next (roots + x.made - x.retired) held held2
      unfolding log_text
      written_on next held2 is text = record {
        older = entry_now ∷ s.older;
        at = at_next next is;
        counts = (let r = roots_now in omega (arith, r));
        text = appends_more held held1 held2 (log_text s.older) (text_of_entry entry_now) (log_text (entry_now ∷ s.older)) refl s.text text;
      }

    -- a front of the entry's line is one of all lines
    pub front_on : (held2 : Option (List ℕ)) → AppendsFront held1 held2 (text_of_entry entry_now) → AppendsFront held held2 (log_text log)
    unfolding log_text
    front_on held2 front =
        let more = text_behind s.at.0 (entry_now ∷ s.older) in
        let whole = ap log_text s.at.2 ∙ more.1 ∙ append_assoc (log_text s.older) (text_of_entry entry_now) more.0 in
        front_behind held held1 held2 (log_text s.older) (text_of_entry entry_now) more.0 (log_text log) whole s.text front

    -- the walk comes nearer to the end of the records
    pub nearer : (next : Option ℕ) → IsNextEntry d b log entry_now next → steps_left (length words) next < steps_left (length words) (Some p)
    unfolding steps_left
    nearer None last = let w = (tells d b log words (parent_image d b log words i) p entry_now stands_now).within in omega (arith, w)
    nearer (Some q) (f, found, h) = go (cases_lt p q)
      where
        within : 8 * p + 8 ≤ length words
        within = (tells d b log words (parent_image d b log words i) p entry_now stands_now).within

        go : (p < q) ⊎ (q ≤ p) → steps_left (length words) (Some q) < steps_left (length words) (Some p)
        go (inl l) = let w = within in omega (arith, w, l)
        go (inr l) =
            let o = own_order d b log i.legal q p f entry_now h stands_now l in
            let n = number_found log (entry_now.number + 1) f found in
            absurd (omega (arith, o, n))
