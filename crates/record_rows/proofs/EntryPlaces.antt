-- The records of entries in the order of their places: those that name entries name them in their order, and an entry's own record is the last of its records.
use Rattle.std.proofs.Common.{◌≡◌, ℕ, zero, suc, ◌+◌, ◌-◌, ◌*◌, ◌%◌, ◌^◌, ◌<◌, ◌≤◌, true, false, ◌||◌, eqb, List, [], ◌∷◌, ◌++◌, length, take, get_or, Some, refl, sym, ◌∙◌, ap, subst, inl, inr, ◌⊎◌, arith, length-append}
use Rattle.std.specs.List.{AllByRecursion, slice_get}
use Rattle.std.proofs.lemmas.Bool.{false≢true, eqb-true, or_cases}
use Rattle.std.proofs.lemmas.Option.{slice_get_within, slice_get-get_or}
use Rattle.op_model.specs.declared.base.Dataset.{Dataset}
use Rattle.op_model.specs.declared.base.Base.{Base}
use Rattle.op_model.specs.declared.entry.Entry.{Entry}
use Rattle.op_model.specs.Legal.{Legal}
use Rattle.record_rows.specs.Rows.{Row, HeaderRow, SupervoxelRow, ChunkRow, NodeRow, LinkRow, EdgeRow, ChangeRow, ItemRow, EntryRow}
use Rattle.record_rows.specs.Words.{layout_word, kind_code, names, fixed_words, words_of}
use Rattle.record_rows.specs.LogRows.{chunks, entry_rows, rows_of}
use Rattle.record_rows.specs.Images.{told, told_of}
use Rattle.record_rows.specs.Readings.{ParentImage, Holds, IsOtherKind}
use Rattle.record_rows.specs.Ascending.{kind_at, number_at, names_entry, EntriesAscend}
use Rattle.record_rows.proofs.DifferLemmas.{all_append, all_more, all_each}
use Rattle.record_rows.proofs.TellLemmas.{same_length, length-words_of}
use Rattle.record_rows.proofs.ImageFacts.{few, told_fixed}
use Rattle.record_rows.proofs.ParentMeaning.{links_entry}
use Rattle.record_rows.proofs.RowFacts.{all_at, all_base, all_entry, nodes_made}
use Rattle.record_rows.proofs.EntryRecords.{NoEntry, entry_told, get_cases, front, front_then, no_front, number_told, stands_at}

-- so it is for the number of the entry that the record names, if it names one
abbrev pub Names : (ℕ → Type 0) → Row → Type 0
Names P (NodeRow n) = P n.made
Names P (LinkRow l) = P l.entry
Names P (EdgeRow made e) = P made
Names P (ChangeRow entry c) = P entry
Names P (EntryRow e) = P e.number
Names P row = Unit {0}

-- both name entries: the first names no later one
abbrev pub Orders : Row → Row → Type 0
Orders r s = Names (λ j. Names (λ k. j ≤ k) s) r

-- the first is an entry's record and the other names one: a later one
abbrev pub Ends : Row → Row → Type 0
Ends (EntryRow e) s = Names (λ k. e.number < k) s
Ends r s = Unit {0}

names_more : (P Q : ℕ → Type 0) → ((k : ℕ) → P k → Q k) → (row : Row) → Names P row → Names Q row
names_more P Q f (NodeRow n) h = f n.made h
names_more P Q f (LinkRow l) h = f l.entry h
names_more P Q f (EdgeRow made e) h = f made h
names_more P Q f (ChangeRow entry c) h = f entry h
names_more P Q f (EntryRow e) h = f e.number h
names_more P Q f row h = tt

names_all : (P : ℕ → Type 0) → ((k : ℕ) → P k) → (row : Row) → Names P row
names_all P f (NodeRow n) = f n.made
names_all P f (LinkRow l) = f l.entry
names_all P f (EdgeRow made e) = f made
names_all P f (ChangeRow entry c) = f entry
names_all P f (EntryRow e) = f e.number
names_all P f row = tt

-- a record of an entry before, and one of an entry at or behind that
apart_order : (n : ℕ) (r s : Row) → Names (λ j. j < n) r → Names (λ k. n ≤ k) s → Orders r s × Ends r s
apart_order n (NodeRow m) s a b = (names_more (λ k. n ≤ k) (λ k. m.made ≤ k) (λ k q. omega arith) s b, tt)
apart_order n (LinkRow l) s a b = (names_more (λ k. n ≤ k) (λ k. l.entry ≤ k) (λ k q. omega arith) s b, tt)
apart_order n (EntryRow e) s a b = (names_more (λ k. n ≤ k) (λ k. e.number ≤ k) (λ k q. omega arith) s b, names_more (λ k. n ≤ k) (λ k. e.number < k) (λ k q. omega arith) s b)
apart_order n (HeaderRow d x y) s a b = (tt, tt)
apart_order n (SupervoxelRow v) s a b = (tt, tt)
apart_order n (ChunkRow c) s a b = (tt, tt)
apart_order n (EdgeRow made e) s a b = (names_more (λ k. n ≤ k) (λ k. made ≤ k) (λ k q. omega arith) s b, tt)
apart_order n (ChangeRow entry c) s a b = (names_more (λ k. n ≤ k) (λ k. entry ≤ k) (λ k q. omega arith) s b, tt)
apart_order n (ItemRow i) s a b = (tt, tt)

-- two records of one entry, of which the first isn't the entry's own
one_order : (n : ℕ) (r s : Row) → NoEntry r → Names (λ j. j ≡ n) r → Names (λ k. k ≡ n) s → Orders r s × Ends r s
unfolding entry_told
one_order n (NodeRow m) s u a b = (names_more (λ k. k ≡ n) (λ k. m.made ≤ k) (λ k q. omega arith) s b, tt)
one_order n (LinkRow l) s u a b = (names_more (λ k. k ≡ n) (λ k. l.entry ≤ k) (λ k q. omega arith) s b, tt)
one_order n (EntryRow e) s u a b = cc
one_order n (HeaderRow d x y) s u a b = (tt, tt)
one_order n (SupervoxelRow v) s u a b = (tt, tt)
one_order n (ChunkRow c) s u a b = (tt, tt)
one_order n (EdgeRow made e) s u a b = (names_more (λ k. k ≡ n) (λ k. made ≤ k) (λ k q. omega arith) s b, tt)
one_order n (ChangeRow entry c) s u a b = (names_more (λ k. k ≡ n) (λ k. entry ≤ k) (λ k q. omega arith) s b, tt)
one_order n (ItemRow i) s u a b = (tt, tt)

all_front : (P : Row → Type 0) (xs ys : List Row) → AllByRecursion P (xs ++ ys) → AllByRecursion P xs
all_front P [] ys a = tt
all_front P (x ∷ xs) ys a = (a.0, all_front P xs ys a.1)

one_place : (g : Row) (q : ℕ) (row : Row) → slice_get (g ∷ []) q ≡ Some row → (q ≡ 0) × (g ≡ row)
one_place g zero row h = (refl, cc)
one_place g (suc q) row h = cc

-- no log, or a legal one
abbrev pub Whole : Dataset → Base → List Entry → Type 0
Whole d b [] = Unit {0}
Whole d b (e ∷ log) = Legal d b (e ∷ log)

module _ (d : Dataset) (b : Base) where
  pub whole_of : (log : List Entry) → Legal d b log → Whole d b log
  whole_of [] legal = tt
  whole_of (e ∷ log) legal = legal

  older : (e : Entry) (log : List Entry) → Legal d b (e ∷ log) → Whole d b log
  older e [] legal = tt
  older e (f ∷ log) legal = legal.1

  -- the records of an entry name it
  entry_named : (log : List Entry) (e : Entry) → AllByRecursion (Names (λ k. k ≡ e.number)) (entry_rows d b log e)
  entry_named log e = all_entry d b (Names (λ k. k ≡ e.number)) log e (λ x. refl) (λ i. tt) (λ c. refl) (nodes_made d b (e ∷ log) e.number) (links_entry d b (e ∷ log) e.number) refl

  -- the records of a log name its entries
  pub named_below : (log : List Entry) → Whole d b log → AllByRecursion (Names (λ k. k < length log)) (rows_of d b log)
  unfolding rows_of
  named_below [] w = all_base d b (Names (λ k. k < 0)) tt (all_each (λ v. Unit {0}) b.supervoxels (λ v. tt)) (all_each (λ c. Unit {0}) (chunks d b) (λ c. tt))
  named_below (e ∷ log) w =
      let n : e.number ≡ length log = number_told d b e log w in
      all_append (Names (λ k. k < length (e ∷ log))) (rows_of d b log) (entry_rows d b log e)
      (all_more (Names (λ k. k < length log)) (Names (λ k. k < length (e ∷ log))) (rows_of d b log) (names_more (λ k. k < length log) (λ k. k < length (e ∷ log)) (λ k q. omega arith)) (named_below log (older e log w)))
      (all_more (Names (λ k. k ≡ e.number)) (Names (λ k. k < length (e ∷ log))) (entry_rows d b log e) (names_more (λ k. k ≡ e.number) (λ k. k < length (e ∷ log)) (λ k q. omega arith)) (entry_named log e))

  -- two records of an entry
  within_entry : (log : List Entry) (e : Entry) (p q : ℕ) (r s : Row) → p < q → slice_get (entry_rows d b log e) p ≡ Some r → slice_get (entry_rows d b log e) q ≡ Some s → Orders r s × Ends r s
  within_entry log e p q r s l h k =
      let front_rows : List Row = front d b log e in
      let all = entry_named log e in
      let split = front_then d b log e in
      let named : AllByRecursion (Names (λ j. j ≡ e.number)) front_rows = all_front (Names (λ j. j ≡ e.number)) front_rows (EntryRow e ∷ []) (subst (AllByRecursion (Names (λ j. j ≡ e.number))) split all) in
      let second : Names (λ j. j ≡ e.number) s = all_at (Names (λ j. j ≡ e.number)) (entry_rows d b log e) all q s k in
      let low : q < length (entry_rows d b log e) = slice_get_within (entry_rows d b log e) q s k in
      let count : length (entry_rows d b log e) ≡ length front_rows + 1 = ap length split ∙ length-append front_rows (EntryRow e ∷ []) in
      elim (get_cases front_rows (EntryRow e ∷ []) p r (sym (ap (λ rs. slice_get rs p) split) ∙ h)) [
        | inl f ↦ one_order e.number r s (all_at NoEntry front_rows (no_front d b log e) p r f) (all_at (Names (λ j. j ≡ e.number)) front_rows named p r f) second
        | inr f ↦ absurd (let i : p ≡ length front_rows + f.0 = f.1 in omega arith)
      ]

  -- two records of a log
  pub in_order : (log : List Entry) → Whole d b log → (p q : ℕ) (r s : Row) → p < q → slice_get (rows_of d b log) p ≡ Some r → slice_get (rows_of d b log) q ≡ Some s → Orders r s × Ends r s
  unfolding rows_of
  in_order [] w p q r s l h k =
      apart_order 0 r s (all_at (Names (λ j. j < 0)) (rows_of d b []) (named_below [] tt) p r h) (names_all (λ j. 0 ≤ j) (λ j. omega arith) s)
  in_order (e ∷ log) w p q r s l h k =
      go (in_order log (older e log w) p q r s l) (get_cases (rows_of d b log) (entry_rows d b log e) p r h) (get_cases (rows_of d b log) (entry_rows d b log e) q s k)
    where
      go : (slice_get (rows_of d b log) p ≡ Some r → slice_get (rows_of d b log) q ≡ Some s → Orders r s × Ends r s) → (slice_get (rows_of d b log) p ≡ Some r) ⊎ ((i : ℕ) × (p ≡ length (rows_of d b log) + i) × (slice_get (entry_rows d b log e) i ≡ Some r))
          → (slice_get (rows_of d b log) q ≡ Some s) ⊎ ((i : ℕ) × (q ≡ length (rows_of d b log) + i) × (slice_get (entry_rows d b log e) i ≡ Some s)) → Orders r s × Ends r s
      go ih (inl f) (inl g) = ih f g
      go ih (inl f) (inr g) =
          let n : e.number ≡ length log = number_told d b e log w in
          apart_order (length log) r s (all_at (Names (λ j. j < length log)) (rows_of d b log) (named_below log (older e log w)) p r f)
          (names_more (λ j. j ≡ e.number) (λ j. length log ≤ j) (λ j t. omega arith) s (all_at (Names (λ j. j ≡ e.number)) (entry_rows d b log e) (entry_named log e) g.0 s g.2))
      go ih (inr f) (inl g) = absurd (let i : p ≡ length (rows_of d b log) + f.0 = f.1 in let j : q < length (rows_of d b log) = slice_get_within (rows_of d b log) q s g in omega arith)
      go ih (inr f) (inr g) =
          let i : p ≡ length (rows_of d b log) + f.0 = f.1 in
          let j : q ≡ length (rows_of d b log) + g.0 = g.1 in
          within_entry log e f.0 g.0 r s (omega arith) f.2 g.2

-- the record names this entry
abbrev pub Named : Row → ℕ → Type 0
Named (NodeRow n) k = k ≡ n.made
Named (LinkRow l) k = k ≡ l.entry
Named (EntryRow e) k = k ≡ e.number
Named row k = ⊥

named_gives : (P : ℕ → Type 0) (row : Row) (k : ℕ) → Names P row → Named row k → P k
named_gives P (NodeRow n) k a e = subst P (sym e) a
named_gives P (LinkRow l) k a e = subst P (sym e) a
named_gives P (EntryRow x) k a e = subst P (sym e) a
named_gives P row k a e = absurd e

order_told : (r s : Row) (j k : ℕ) → Orders r s → Named r j → Named s k → j ≤ k
order_told r s j k o a b = named_gives (λ y. j ≤ y) s k (named_gives (λ x. Names (λ y. x ≤ y) s) r j o a) b

end_told : (r s : Row) (j k : ℕ) (e : Entry) → r ≡ EntryRow e → Ends r s → Named r j → Named s k → j < k
end_told r s j k e q o a b =
    let n : j ≡ e.number = subst (λ x. Named x j) q a in
    let o2 : Names (λ y. e.number < y) s = subst (λ x. Ends x s) q o in
    let l : e.number < k = named_gives (λ y. e.number < y) s k o2 b in
    omega (arith, n, l)

not_named : (k : ℕ) → IsOtherKind k → names_entry k ≡ true → ⊥
unfolding names_entry
not_named k o t =
    elim (or_cases (eqb k 4 || eqb k 5) (eqb k 9) t) [
      | inl h ↦ elim (or_cases (eqb k 4) (eqb k 5) h) [ inl f ↦ o.3 (eqb-true k 4 f) | inr f ↦ o.4 (eqb-true k 5 f) ]
      | inr h ↦ o.5 (eqb-true k 9 h)
    ]

nine : (k : ℕ) → k ≡ 9 → names_entry k ≡ true
unfolding names_entry
nine k e = ap names_entry e

-- no other kind names an entry
unnamed : (k m : ℕ) → k ≡ m → names_entry m ≡ false → names_entry k ≡ true → ⊥
unnamed k m e f t = false≢true (sym f ∙ (ap names_entry (sym e) ∙ t))

module _ (d : Dataset) (b : Base) (log : List Entry) (words : List ℕ) (i : ParentImage d b log words) where
  abbrev rows : List Row
  rows = rows_of d b log

  -- the first word of a record that is told
  first : (p : ℕ) (row : Row) → Holds d b log p row → get_or (told row) 0 false ≡ true → get_or words (8 * p) 0 ≡ get_or (fixed_words (take p rows) row) 0 0
  first p row h t =
      let e : 8 * p + 0 ≡ 8 * p = omega arith in
      sym (ap (λ x. get_or words x 0) e) ∙ told_fixed d b log words i p 0 row h (omega arith) t

  -- what the first word tells to name an entry does, and the last fixed word tells which
  pub named_told : (p : ℕ) (row : Row) → Holds d b log p row → names_entry (kind_at words p) ≡ true → Named row (number_at words p)
  unfolding kind_at number_at names_entry told fixed_words layout_word
  named_told p (NodeRow n) h t = told_fixed d b log words i p 3 (NodeRow n) h (omega arith) refl
  named_told p (LinkRow l) h t = told_fixed d b log words i p 3 (LinkRow l) h (omega arith) refl
  named_told p (EntryRow e) h t = told_fixed d b log words i p 3 (EntryRow e) h (omega arith) refl
  named_told p (HeaderRow of s c) h t =
      let w : get_or words (8 * p) 0 ≡ 1 + of.layout.bits * 2 ^ 8 + (of.layout.version - 1) * 2 ^ 16 = first p (HeaderRow of s c) h refl in
      absurd (unnamed (get_or words (8 * p) 0 % 2 ^ 8) 1 (omega arith) refl t)
  named_told p (SupervoxelRow v) h t = let w : get_or words (8 * p) 0 ≡ 2 = first p (SupervoxelRow v) h refl in absurd (unnamed (get_or words (8 * p) 0 % 2 ^ 8) 2 (omega arith) refl t)
  named_told p (ChunkRow c) h t = let w : get_or words (8 * p) 0 ≡ 3 = first p (ChunkRow c) h refl in absurd (unnamed (get_or words (8 * p) 0 % 2 ^ 8) 3 (omega arith) refl t)
  named_told p (EdgeRow made e) h t = absurd (not_named _ (i.apart p (EdgeRow made e) h tt) t)
  named_told p (ChangeRow entry c) h t = absurd (not_named _ (i.apart p (ChangeRow entry c) h tt) t)
  named_told p (ItemRow m) h t = absurd (not_named _ (i.apart p (ItemRow m) h tt) t)

  -- what the first word tells to be an entry's record is one
  pub own_told : (p : ℕ) (row : Row) → Holds d b log p row → kind_at words p ≡ 9 → (e : Entry) × (row ≡ EntryRow e) × (number_at words p ≡ e.number)
  unfolding kind_at number_at told fixed_words layout_word
  own_told p (EntryRow e) h k = (e, refl, told_fixed d b log words i p 3 (EntryRow e) h (omega arith) refl)
  own_told p (HeaderRow of s c) h k =
      let w : get_or words (8 * p) 0 ≡ 1 + of.layout.bits * 2 ^ 8 + (of.layout.version - 1) * 2 ^ 16 = first p (HeaderRow of s c) h refl in
      absurd (omega arith)
  own_told p (SupervoxelRow v) h k = let w : get_or words (8 * p) 0 ≡ 2 = first p (SupervoxelRow v) h refl in absurd (omega arith)
  own_told p (ChunkRow c) h k = let w : get_or words (8 * p) 0 ≡ 3 = first p (ChunkRow c) h refl in absurd (omega arith)
  own_told p (NodeRow n) h k = let w : get_or words (8 * p) 0 ≡ 4 = first p (NodeRow n) h refl in absurd (omega arith)
  own_told p (LinkRow l) h k = let w : get_or words (8 * p) 0 ≡ 5 = first p (LinkRow l) h refl in absurd (omega arith)
  own_told p (EdgeRow made e) h k = absurd ((i.apart p (EdgeRow made e) h tt).5 k)
  own_told p (ChangeRow entry c) h k = absurd ((i.apart p (ChangeRow entry c) h tt).5 k)
  own_told p (ItemRow m) h k = absurd ((i.apart p (ItemRow m) h tt).5 k)

  -- the record of an entry tells its kind and number
  pub entry_kind : (p : ℕ) (e : Entry) → Holds d b log p (EntryRow e) → (kind_at words p ≡ 9) × (number_at words p ≡ e.number)
  unfolding kind_at number_at told fixed_words
  entry_kind p e h =
      let w : get_or words (8 * p) 0 ≡ 9 + kind_code e.asked * 2 ^ 8 + names e.asked * 2 ^ 32 = first p (EntryRow e) h refl in
      (omega arith, told_fixed d b log words i p 3 (EntryRow e) h (omega arith) refl)

  counted : length words ≡ 8 * length rows
  counted = same_length (told_of rows) words (words_of rows) i.parents ∙ length-words_of rows

  pub row_at : (p : ℕ) → p < length rows → (row : Row) × Holds d b log p row
  row_at p h = (_, slice_get-get_or rows p (HeaderRow d 0 0) h)

  last_kind : (l : List Entry) → l ≡ log → Legal d b l → (p : ℕ) → p + 1 ≡ length rows → kind_at words p ≡ 9
  last_kind [] q legal p e = absurd legal
  last_kind (f ∷ older) q legal p e =
      let h : Holds d b (f ∷ older) (length (rows_of d b (f ∷ older)) - 1) (EntryRow f) = stands_at d b [] f older in
      let same : length (rows_of d b (f ∷ older)) ≡ length rows = ap (λ l. length (rows_of d b l)) q in
      let place : length (rows_of d b (f ∷ older)) - 1 ≡ p = omega arith in
      (entry_kind p f (subst (λ l. Holds d b l p (EntryRow f)) q (subst (λ n. Holds d b (f ∷ older) n (EntryRow f)) place h))).0

  -- the words of a log tell its entries in their order
  pub entries_ascend : EntriesAscend words (length rows)
  entries_ascend = record {
    within = counted;
    few = (let f = few d b log words i in omega arith);
    ends = last_kind log refl i.legal;
    ascending = λ p q l m t u.
        let r = row_at p (omega arith) in
        let s = row_at q m in
        order_told r.0 s.0 (number_at words p) (number_at words q) (in_order d b log (whole_of d b log i.legal) p q r.0 s.0 l r.1 s.1).0 (named_told p r.0 r.1 t) (named_told q s.0 s.1 u);
    behind = λ p q l m t u.
        let r = row_at p (omega arith) in
        let s = row_at q m in
        let o = own_told p r.0 r.1 t in
        end_told r.0 s.0 (number_at words p) (number_at words q) o.0 o.1 (in_order d b log (whole_of d b log i.legal) p q r.0 s.0 l r.1 s.1).1 (named_told p r.0 r.1 (nine _ t)) (named_told q s.0 s.1 u);
  }
