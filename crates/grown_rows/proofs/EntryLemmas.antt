-- Items, changes and the entry behind the others: the pointers that lead to them.
use Rattle.std.proofs.Common.{◌≡◌, ℕ, zero, suc, ◌+◌, ◌*◌, ◌^◌, ◌<◌, ◌≤◌, Bool, true, false, ◌||◌, eqb, List, [], ◌∷◌, ◌++◌, length, drop, get_or, Option, Some, None, refl, sym, ◌∙◌, ap, subst, inl, inr, ◌⊎◌, arith, length-append}
use Rattle.std.specs.List.{slice_get, AllByRecursion, list_any}
use Rattle.std.specs.Bool.{IsFalse}
use Rattle.std.proofs.lemmas.Bool.{false≢true, eqb-true, eqb-false, eq-eqb, ne_eqb, or_left, or_right}
use Rattle.std.proofs.lemmas.Option.{slice_get_within}
use Rattle.op_model.specs.declared.entry.Changed.{Changed}
use Rattle.op_model.specs.declared.base.Pair.{Pair}
use Rattle.op_model.specs.declared.entry.Entry.{Entry}
use Rattle.graph_model.specs.Lists.{has}
use Rattle.graph_model.proofs.ListLemmas.{has_none, has_head, has_tail, has_cases}
use Rattle.record_rows.specs.Rows.{Row, HeaderRow, SupervoxelRow, ChunkRow, NodeRow, LinkRow, EdgeRow, ChangeRow, ItemRow, EntryRow, Node, Item}
use Rattle.record_rows.specs.Chains.{Aim, Nowhere, First, Next, aims, edge_at, version_of, child_of, node_in, is_node, is_edge, change_of, change_in, item_in, entry_before, retires}
use Rattle.record_rows.specs.Words.{bit, place_from, fixed_words, pointer_word, row_words, words_of, kind_code, names}
use Rattle.record_rows.specs.Growth.{stored, names_word}
use Rattle.record_rows.proofs.GrowthLemmas.{slice_get-append}
use Rattle.record_rows.proofs.Lookups.{pointer_at}
use Rattle.record_rows.proofs.TellLemmas.{length-words_of}
use Rattle.row_append.specs.Ends.{IsHeaded}
use Rattle.row_append.specs.Tails.{word_number}
use Rattle.row_append.specs.declared.tail.Tail.{Tail}
use Rattle.row_append.proofs.EndLaws.{headers_stay}
use Rattle.row_append.proofs.Leaving.{any_at, place_kept, own}
use Rattle.grown_rows.specs.Growths.{Grown, with_words, IsGrowth, filled_by, stores_to, Once, IsOpen}
use Rattle.grown_rows.specs.Aimed.{passes, IsAimed, is_item_of, is_change_of, is_entry, ItemsEnd, ChangesEnd, tails_before, to_changes, IsToChanges, ChangesEndAt, tails_at, Differ, AreRetired}
use Rattle.grown_rows.proofs.FillLemmas.{grown_by}
use Rattle.grown_rows.proofs.AimLemmas.{aimed_pushed, aimed_after}

eqb_turned : (a b : ℕ) → eqb a b ≡ false → eqb b a ≡ false
eqb_turned a b e = ne_eqb b a (λ q. eqb-false a b e (sym q))

all_at : (P : Aim → Type 0) (xs : List Aim) (k : ℕ) → P Nowhere → AllByRecursion P xs → P (get_or xs k Nowhere)
all_at P [] k n a = n
all_at P (x ∷ xs) zero n a = a.0
all_at P (x ∷ xs) (suc k) n a = all_at P xs k n a.1

get_last : (rows : List Row) (row : Row) → slice_get (rows ++ row ∷ []) (length rows) ≡ Some row
get_last [] row = refl
get_last (x ∷ rows) row = get_last rows row

drop_all : (rows : List Row) (row : Row) → drop (length rows + 1) (rows ++ row ∷ []) ≡ []
drop_all [] row = refl
drop_all (x ∷ rows) row = let e : length (x ∷ rows) + 1 ≡ suc (length rows + 1) = omega arith in rw e (drop_all rows row)

-- a pointer of the record that stands last
pub own_pointer : (rows : List Row) (row : Row) (k : ℕ) → k < 4 → get_or (words_of (rows ++ row ∷ [])) (8 * length rows + (4 + k)) 0 ≡ pointer_word (rows ++ row ∷ []) (length rows) [] (get_or (aims row) k Nowhere)
own_pointer rows row k l =
    pointer_at (rows ++ row ∷ []) (length rows) k row (get_last rows row) l
    ∙ ap (λ behind. pointer_word (rows ++ row ∷ []) (length rows) behind (get_or (aims row) k Nowhere)) (drop_all rows row)

-- the same pointers lead to all items of one entry
same_items : (i j : Item) → i.entry ≡ j.entry → (row : Row) → AllByRecursion (λ aim. passes aim (ItemRow i) ≡ passes aim (ItemRow j)) (aims row)
unfolding aims passes edge_at version_of child_of node_in is_node is_edge change_of change_in item_in entry_before retires
same_items i j e (HeaderRow d s c) = (refl, (refl, (refl, (refl, tt))))
same_items i j e (SupervoxelRow v) = (refl, (refl, (refl, (refl, tt))))
same_items i j e (ChunkRow c) = (refl, (refl, (refl, (refl, tt))))
same_items i j e (NodeRow n) = (refl, (refl, (refl, (refl, tt))))
same_items i j e (LinkRow l) = (refl, (refl, (refl, (refl, tt))))
same_items i j e (EdgeRow made x) = (refl, (refl, (refl, (refl, tt))))
same_items i j e (ChangeRow entry c) = (refl, (refl, (refl, (refl, tt))))
same_items i j e (ItemRow x) = (rw e refl, (refl, (refl, (refl, tt))))
same_items i j e (EntryRow x) = (rw e refl, (refl, (refl, (refl, tt))))

-- none leads to the first item
no_items : (i : Item) (row : Row) → is_item_of i.entry row ≡ false → AllByRecursion (λ aim. passes aim (ItemRow i) ≡ false) (aims row)
unfolding aims passes edge_at version_of child_of node_in is_node is_edge change_of change_in item_in entry_before retires is_item_of
no_items i (HeaderRow d s c) e = (refl, (refl, (refl, (refl, tt))))
no_items i (SupervoxelRow v) e = (refl, (refl, (refl, (refl, tt))))
no_items i (ChunkRow c) e = (refl, (refl, (refl, (refl, tt))))
no_items i (NodeRow n) e = (refl, (refl, (refl, (refl, tt))))
no_items i (LinkRow l) e = (refl, (refl, (refl, (refl, tt))))
no_items i (EdgeRow made x) e = (refl, (refl, (refl, (refl, tt))))
no_items i (ChangeRow entry c) e = (refl, (refl, (refl, (refl, tt))))
no_items i (ItemRow x) e = (eqb_turned x.entry i.entry e, (refl, (refl, (refl, tt))))
no_items i (EntryRow x) e = (eqb_turned x.number i.entry e, (refl, (refl, (refl, tt))))

item_own : (i j : Item) (k : ℕ) → passes (get_or (aims (ItemRow j)) k Nowhere) (ItemRow i) ≡ true → k ≡ 0
unfolding aims passes
item_own i j zero e = refl
item_own i j (suc zero) e = absurd (false≢true e)
item_own i j (suc (suc zero)) e = absurd (false≢true e)
item_own i j (suc (suc (suc zero))) e = absurd (false≢true e)
item_own i j (suc (suc (suc (suc k)))) e = absurd (false≢true e)

item_words : (rows : List Row) (i : Item) → row_words (rows ++ ItemRow i ∷ []) (length rows) (ItemRow i) [] ≡ (8 + i.side * 2 ^ 8) ∷ i.id ∷ 0 ∷ 0 ∷ 0 ∷ 0 ∷ 0 ∷ 0 ∷ []
unfolding aims fixed_words pointer_word place_from
item_words rows i = own rows (ItemRow i)

item_passes : (i last : Item) → last.entry ≡ i.entry → passes (get_or (aims (ItemRow last)) 0 Nowhere) (ItemRow i) ≡ true
unfolding aims passes item_in
item_passes i last n = eq-eqb i.entry last.entry (sym n)

behind : (all front : List Row) (row : Row) (p : ℕ) → all ≡ front ++ row ∷ [] → p ≡ length front → p < length all
behind all front row p e l = let n : length all ≡ length front + 1 = ap length e ∙ length-append front (row ∷ []) in omega arith

-- the last item's pointer is empty
item_end : (all front : List Row) (last : Item) (p : ℕ) → all ≡ front ++ ItemRow last ∷ [] → p ≡ length front → get_or (words_of all) (8 * p + 4) 0 ≡ 0
unfolding aims pointer_word place_from
item_end all front last p e l =
    let n : 8 * p + 4 ≡ 8 * length front + (4 + 0) = omega arith in
    ap (λ rs. get_or (words_of rs) (8 * p + 4) 0) e ∙ (ap (λ j. get_or (words_of (front ++ ItemRow last ∷ [])) j 0) n ∙ own_pointer front (ItemRow last) 0 (omega arith))

-- and the only one that leads to the next
next_item : (all front : List Row) (last i : Item) (p w : ℕ) → IsHeaded front → all ≡ front ++ ItemRow last ∷ [] → last.entry ≡ i.entry → p ≡ length front → IsAimed all (ItemRow i) w → w ≡ 8 * p + 4
unfolding passes
next_item all front last i p w h e n l a =
    elim (aimed_after front (ItemRow last) (ItemRow i) w h (subst (λ rs. IsAimed rs (ItemRow i) w) e a)) [
      | inl b ↦
          let x : IsAimed front (ItemRow i) w = b.0 in
          absurd (false≢true (sym (b.1 x.place x.k x.row x.there x.pointer x.number)
          ∙ (sym (all_at (λ aim. passes aim (ItemRow i) ≡ passes aim (ItemRow last)) (aims x.row) x.k refl (same_items i last (sym n) x.row)) ∙ x.passing)))
      | inr b ↦ let z : b.0 ≡ 0 = item_own i last b.0 b.2 in let q : w ≡ 8 * length front + (4 + b.0) = b.3 in omega arith
    ]

once_none : (v : ℕ) → Once (stores_to v [])
unfolding stores_to
once_none v = tt

once_one : (v : ℕ) (t : Tail) → Once (stores_to v (t ∷ []))
unfolding stores_to names_word
once_one v t = (refl, tt)

named_one : (v : ℕ) (t : Tail) (w : ℕ) → word_number t ≡ w → names_word (stores_to v (t ∷ [])) w ≡ true
unfolding stores_to names_word
named_one v t w e = rw (eq-eqb (word_number t) w e) refl

once_two : (v : ℕ) (s t : Tail) → eqb (word_number t) (word_number s) ≡ false → Once (stores_to v (s ∷ t ∷ []))
unfolding stores_to names_word
once_two v s t e = (rw e refl, (refl, tt))

named_two : (v : ℕ) (s t : Tail) (w : ℕ) → (word_number s ≡ w) ⊎ (word_number t ≡ w) → names_word (stores_to v (s ∷ t ∷ [])) w ≡ true
unfolding stores_to names_word
named_two v s t w (inl e) = or_left (eqb (word_number s) w) (eqb (word_number t) w || false) (eq-eqb (word_number s) w e)
named_two v s t w (inr e) = or_right (eqb (word_number s) w) (eqb (word_number t) w || false) (or_left (eqb (word_number t) w) false (eq-eqb (word_number t) w e))

-- whether the k-th pointer of a record leads along the changes of an entry
unfoldable in_entry : ℕ → Row → ℕ → Bool
in_entry n (ChangeRow m c) (suc (suc zero)) = eqb n m
in_entry n (EntryRow e) (suc zero) = eqb n e.number
in_entry n row k = false

-- what leads to a change: a pointer along those of its pair, or along those of its entry
change_cases : (n : ℕ) (c : Changed) (row : Row) (k : ℕ) → passes (get_or (aims row) k Nowhere) (ChangeRow n c) ≡ true → (to_changes c.pair row k ≡ true) ⊎ (in_entry n row k ≡ true)
unfolding aims passes edge_at version_of child_of node_in is_node is_edge change_of change_in item_in entry_before retires to_changes in_entry
change_cases n c (EdgeRow made x) zero e = inl e
change_cases n c (ChangeRow m x) (suc zero) e = inl e
change_cases n c (ChangeRow m x) (suc (suc zero)) e = inr e
change_cases n c (EntryRow x) (suc zero) e = inr e
change_cases n c (ChangeRow m x) zero e = absurd (false≢true e)
change_cases n c (ChangeRow m x) (suc (suc (suc k))) e = absurd (false≢true (sym (all_at (λ aim. passes aim (ChangeRow n c) ≡ false) (Nowhere ∷ []) k refl (refl, tt)) ∙ e))
change_cases n c (EntryRow x) zero e = absurd (false≢true e)
change_cases n c (EntryRow x) (suc (suc k)) e = absurd (false≢true (sym (all_at (λ aim. passes aim (ChangeRow n c) ≡ false) (First (entry_before x.number) ∷ Nowhere ∷ []) k refl (refl, (refl, tt))) ∙ e))
change_cases n c (EdgeRow made x) (suc k) e = absurd (false≢true (sym (all_at (λ aim. passes aim (ChangeRow n c) ≡ false) (Next (edge_at x.pair.a) ∷ Next (edge_at x.pair.b) ∷ Nowhere ∷ []) k refl (refl, (refl, (refl, tt)))) ∙ e))
change_cases n c (HeaderRow d s m) k e = absurd (false≢true (sym (all_at (λ aim. passes aim (ChangeRow n c) ≡ false) (aims (HeaderRow d s m)) k refl (refl, (refl, (refl, (refl, tt))))) ∙ e))
change_cases n c (SupervoxelRow x) k e = absurd (false≢true (sym (all_at (λ aim. passes aim (ChangeRow n c) ≡ false) (aims (SupervoxelRow x)) k refl (refl, (refl, (refl, (refl, tt))))) ∙ e))
change_cases n c (ChunkRow x) k e = absurd (false≢true (sym (all_at (λ aim. passes aim (ChangeRow n c) ≡ false) (aims (ChunkRow x)) k refl (refl, (refl, (refl, (refl, tt))))) ∙ e))
change_cases n c (NodeRow x) k e = absurd (false≢true (sym (all_at (λ aim. passes aim (ChangeRow n c) ≡ false) (aims (NodeRow x)) k refl (refl, (refl, (refl, (refl, tt))))) ∙ e))
change_cases n c (LinkRow x) k e = absurd (false≢true (sym (all_at (λ aim. passes aim (ChangeRow n c) ≡ false) (aims (LinkRow x)) k refl (refl, (refl, (refl, (refl, tt))))) ∙ e))
change_cases n c (ItemRow x) k e = absurd (false≢true (sym (all_at (λ aim. passes aim (ChangeRow n c) ≡ false) (aims (ItemRow x)) k refl (refl, (refl, (refl, (refl, tt))))) ∙ e))

to_changes_passes : (n : ℕ) (c : Changed) (row : Row) (k : ℕ) → to_changes c.pair row k ≡ true → passes (get_or (aims row) k Nowhere) (ChangeRow n c) ≡ true
unfolding aims passes change_of to_changes
to_changes_passes n c (EdgeRow made x) zero e = e
to_changes_passes n c (ChangeRow m x) (suc zero) e = e
to_changes_passes n c row k e = absurd (false≢true e)

to_changes_low : (p : Pair) (row : Row) (k : ℕ) → to_changes p row k ≡ true → k ≤ 1
unfolding to_changes
to_changes_low p (EdgeRow made x) zero e = omega arith
to_changes_low p (ChangeRow m x) (suc zero) e = omega arith
to_changes_low p row k e = absurd (false≢true e)

change_passes : (n : ℕ) (c prev : Changed) → passes (get_or (aims (ChangeRow n prev)) 2 Nowhere) (ChangeRow n c) ≡ true
unfolding aims passes change_in
change_passes n c prev = eq-eqb n n refl

change_words : (rows : List Row) (n : ℕ) (c : Changed)
    → row_words (rows ++ ChangeRow n c ∷ []) (length rows) (ChangeRow n c) [] ≡ (7 + bit c.active * 2 ^ 8) ∷ c.pair.a ∷ c.pair.b ∷ n ∷ place_from (is_edge c.pair) 0 rows ∷ 0 ∷ 0 ∷ 0 ∷ []
unfolding aims fixed_words pointer_word place_from is_edge
change_words rows n c = own rows (ChangeRow n c) ∙ rw (place_kept (is_edge c.pair) 0 rows (ChangeRow n c) refl) refl

change_end : (all front : List Row) (n : ℕ) (prev : Changed) (p : ℕ) → all ≡ front ++ ChangeRow n prev ∷ [] → p ≡ length front → get_or (words_of all) (8 * p + 6) 0 ≡ 0
unfolding aims pointer_word place_from
change_end all front n prev p e l =
    let m : 8 * p + 6 ≡ 8 * length front + (4 + 2) = omega arith in
    ap (λ rs. get_or (words_of rs) (8 * p + 6) 0) e ∙ (ap (λ j. get_or (words_of (front ++ ChangeRow n prev ∷ [])) j 0) m ∙ own_pointer front (ChangeRow n prev) 2 (omega arith))

in_entry_of : (n : ℕ) (row : Row) (k : ℕ) → in_entry n row k ≡ true → is_change_of n row ≡ true
unfolding in_entry is_change_of
in_entry_of n (ChangeRow m c) (suc (suc zero)) e = eq-eqb m n (sym (eqb-true n m e))
in_entry_of n (EntryRow x) (suc zero) e = eq-eqb x.number n (sym (eqb-true n x.number e))
in_entry_of n row k e = absurd (false≢true e)

-- the first change of an entry: only a pointer along those of its pair leads to it
first_change : (all : List Row) (n : ℕ) (c : Changed) (w : ℕ) → list_any (is_change_of n) all ≡ false → IsAimed all (ChangeRow n c) w → IsToChanges c.pair all w
first_change all n c w none a = elim (change_cases n c a.row a.k a.passing) [
  | inl e ↦ record { place = a.place; k = a.k; row = a.row; there = a.there; pointer = a.pointer; leads = e; number = a.number }
  | inr e ↦ absurd (false≢true (sym (any_at (is_change_of n) all a.place a.row none a.there) ∙ in_entry_of n a.row a.k e))
]

-- what leads along an entry's changes leads to all of them alike
in_entry_passes : (n : ℕ) (c : Changed) (row : Row) (k : ℕ) → in_entry n row k ≡ true → passes (get_or (aims row) k Nowhere) (ChangeRow n c) ≡ true
unfolding aims passes change_in in_entry
in_entry_passes n c (ChangeRow m x) (suc (suc zero)) e = e
in_entry_passes n c (EntryRow x) (suc zero) e = e
in_entry_passes n c row k e = absurd (false≢true e)

in_entry_own : (n : ℕ) (c : Changed) (k : ℕ) → in_entry n (ChangeRow n c) k ≡ true → k ≡ 2
unfolding in_entry
in_entry_own n c (suc (suc zero)) e = refl
in_entry_own n c zero e = absurd (false≢true e)
in_entry_own n c (suc zero) e = absurd (false≢true e)
in_entry_own n c (suc (suc (suc k))) e = absurd (false≢true e)

-- a later change: also the last change's pointer
next_change : (all front : List Row) (n : ℕ) (prev c : Changed) (p w : ℕ) → IsHeaded front → all ≡ front ++ ChangeRow n prev ∷ [] → p ≡ length front → IsAimed all (ChangeRow n c) w
    → (IsToChanges c.pair all w) ⊎ (w ≡ 8 * p + 6)
next_change all front n prev c p w h e l a = elim (aimed_after front (ChangeRow n prev) (ChangeRow n c) w h (subst (λ rs. IsAimed rs (ChangeRow n c) w) e a)) [ inl b ↦ earlier b.0 b.1 | inr b ↦ last b.0 b.1 b.2 b.3 ]
  where
    earlier : (x : IsAimed front (ChangeRow n c) w) → ((q k : ℕ) (row : Row) → slice_get front q ≡ Some row → k < 4 → w ≡ 8 * q + (4 + k) → passes (get_or (aims row) k Nowhere) (ChangeRow n prev) ≡ false)
        → (IsToChanges c.pair all w) ⊎ (w ≡ 8 * p + 6)
    earlier x f = elim (change_cases n c x.row x.k x.passing) [
      | inl t ↦ inl (subst (λ rs. IsToChanges c.pair rs w) (sym e) (record { place = x.place; k = x.k; row = x.row; there = slice_get-append front (ChangeRow n prev ∷ []) x.place x.row x.there; pointer = x.pointer; leads = t; number = x.number }))
      | inr t ↦ absurd (false≢true (sym (f x.place x.k x.row x.there x.pointer x.number) ∙ in_entry_passes n prev x.row x.k t))
    ]

    last : (k : ℕ) → k < 4 → passes (get_or (aims (ChangeRow n prev)) k Nowhere) (ChangeRow n c) ≡ true → w ≡ 8 * length front + (4 + k) → (IsToChanges c.pair all w) ⊎ (w ≡ 8 * p + 6)
    last k m f q = elim (change_cases n c (ChangeRow n prev) k f) [
      | inl t ↦ inl (subst (λ rs. IsToChanges c.pair rs w) (sym e) (record { place = length front; k = k; row = ChangeRow n prev; there = get_last front (ChangeRow n prev); pointer = m; leads = t; number = q }))
      | inr t ↦ inr (let z : k ≡ 2 = in_entry_own n prev k t in omega arith)
    ]

-- the pointers of retired nodes
abbrev Retired : List Row → Entry → ℕ → Type 0
Retired all e p = (n : Node) × (slice_get all p ≡ Some (NodeRow n)) × (retires n (EntryRow e) ≡ true) × (get_or (words_of all) (8 * p + 6) 0 ≡ 0)

retired_open : (all : List Row) (e : Entry) (places : List ℕ) → AllByRecursion (Retired all e) places → AllByRecursion (IsOpen (words_of all)) (tails_at places)
retired_open all e [] a = tt
retired_open all e (p ∷ places) a =
    let q : p < length all = slice_get_within all p (NodeRow a.0.0) a.0.1 in
    let n : length (words_of all) ≡ 8 * length all = length-words_of all in
    ((omega arith, omega arith, a.0.3), retired_open all e places a.1)

retired_aimed : (all : List Row) (e : Entry) (places : List ℕ) → AllByRecursion (Retired all e) places → AllByRecursion (λ t. IsAimed all (EntryRow e) (word_number t)) (tails_at places)
unfolding aims passes
retired_aimed all e [] a = tt
retired_aimed all e (p ∷ places) a =
    (record { place = p; k = 2; row = NodeRow a.0.0; there = a.0.1; pointer = omega arith; number = omega arith; passing = a.0.2; empty = a.0.3 }, retired_aimed all e places a.1)

named_not : (v : ℕ) (places : List ℕ) (p : ℕ) → has places p ≡ false → names_word (stores_to v (tails_at places)) (8 * p + 6) ≡ false
unfolding names_word stores_to
named_not v [] p e = refl
named_not v (q ∷ places) p e =
    let n : eqb (8 * q + 6) (8 * p + 6) ≡ false = ne_eqb (8 * q + 6) (8 * p + 6) (λ x. let y : q ≡ p = omega arith in absurd (false≢true (sym e ∙ subst (λ z. has (q ∷ places) z ≡ true) y (has_head q places)))) in
    rw (n, named_not v places p (not_tail e)) refl
  where
    not_tail : has (q ∷ places) p ≡ false → has places p ≡ false
    not_tail f = go (has places p) refl
      where
        go : (b : Bool) → has places p ≡ b → has places p ≡ false
        go true t = absurd (false≢true (sym f ∙ has_tail q places p t))
        go false t = t

named_tails : (v : ℕ) (places : List ℕ) (i p : ℕ) → i ≡ 8 * p + 6 → has places p ≡ true → names_word (stores_to v (tails_at places)) i ≡ true
unfolding names_word stores_to
named_tails v [] i p e h = has_none p h
named_tails v (q ∷ places) i p e h = elim (has_cases q places p h) [
  | inl x ↦ or_left (eqb (8 * q + 6) i) (list_any (λ s. eqb s.word i) (stores_to v (tails_at places))) (eq-eqb (8 * q + 6) i (omega arith))
  | inr t ↦ or_right (eqb (8 * q + 6) i) (list_any (λ s. eqb s.word i) (stores_to v (tails_at places))) (named_tails v places i p e t)
]

retired_once : (v : ℕ) (places : List ℕ) → Differ places → Once (stores_to v (tails_at places))
unfolding stores_to
retired_once v [] d = tt
retired_once v (p ∷ places) d = (named_not v places p d.0, retired_once v places d.1)

-- what leads to an entry: the pointers of nodes that it retires
entry_cases : (e : Entry) (row : Row) (k : ℕ) → is_entry (e.number + 1) row ≡ false → passes (get_or (aims row) k Nowhere) (EntryRow e) ≡ true → (n : Node) × (row ≡ NodeRow n) × (k ≡ 2) × (retires n (EntryRow e) ≡ true)
unfolding aims passes edge_at version_of child_of node_in is_node is_edge change_of change_in item_in entry_before is_entry
entry_cases e (NodeRow n) (suc (suc zero)) f t = (n, refl, refl, t)
entry_cases e (NodeRow n) zero f t = absurd (false≢true t)
entry_cases e (NodeRow n) (suc zero) f t = absurd (false≢true t)
entry_cases e (NodeRow n) (suc (suc (suc k))) f t = absurd (false≢true (sym (all_at (λ aim. passes aim (EntryRow e) ≡ false) (Next (node_in n.chunk) ∷ []) k refl (refl, tt)) ∙ t))
entry_cases e (EntryRow x) k f t = absurd (false≢true (sym (all_at (λ aim. passes aim (EntryRow e) ≡ false) (aims (EntryRow x)) k refl (refl, (refl, (f, (refl, tt))))) ∙ t))
entry_cases e (HeaderRow d s m) k f t = absurd (false≢true (sym (all_at (λ aim. passes aim (EntryRow e) ≡ false) (aims (HeaderRow d s m)) k refl (refl, (refl, (refl, (refl, tt))))) ∙ t))
entry_cases e (SupervoxelRow x) k f t = absurd (false≢true (sym (all_at (λ aim. passes aim (EntryRow e) ≡ false) (aims (SupervoxelRow x)) k refl (refl, (refl, (refl, (refl, tt))))) ∙ t))
entry_cases e (ChunkRow x) k f t = absurd (false≢true (sym (all_at (λ aim. passes aim (EntryRow e) ≡ false) (aims (ChunkRow x)) k refl (refl, (refl, (refl, (refl, tt))))) ∙ t))
entry_cases e (LinkRow x) k f t = absurd (false≢true (sym (all_at (λ aim. passes aim (EntryRow e) ≡ false) (aims (LinkRow x)) k refl (refl, (refl, (refl, (refl, tt))))) ∙ t))
entry_cases e (EdgeRow made x) k f t = absurd (false≢true (sym (all_at (λ aim. passes aim (EntryRow e) ≡ false) (aims (EdgeRow made x)) k refl (refl, (refl, (refl, (refl, tt))))) ∙ t))
entry_cases e (ChangeRow m x) k f t = absurd (false≢true (sym (all_at (λ aim. passes aim (EntryRow e) ≡ false) (aims (ChangeRow m x)) k refl (refl, (refl, (refl, (refl, tt))))) ∙ t))
entry_cases e (ItemRow x) k f t = absurd (false≢true (sym (all_at (λ aim. passes aim (EntryRow e) ≡ false) (aims (ItemRow x)) k refl (refl, (refl, (refl, (refl, tt))))) ∙ t))

retired_named : (v : ℕ) (all : List Row) (e : Entry) (places : List ℕ) (i : ℕ) → list_any (is_entry (e.number + 1)) all ≡ false
    → ((p : ℕ) (n : Node) → slice_get all p ≡ Some (NodeRow n) → retires n (EntryRow e) ≡ true → get_or (words_of all) (8 * p + 6) 0 ≡ 0 → has places p ≡ true)
    → IsAimed all (EntryRow e) i → names_word (stores_to v (tails_at places)) i ≡ true
retired_named v all e places i none only a =
    let c = entry_cases e a.row a.k (any_at (is_entry (e.number + 1)) all a.place a.row none a.there) a.passing in
    let q : i ≡ 8 * a.place + 6 = (let x : i ≡ 8 * a.place + (4 + a.k) = a.number in let y : a.k ≡ 2 = c.2 in omega arith) in
    named_tails v places i a.place q (only a.place c.0 (subst (λ r. slice_get all a.place ≡ Some r) c.1 a.there) c.3 (ap (λ j. get_or (words_of all) j 0) (sym q) ∙ a.empty))

no_item : (x : Entry) → item_in x.number (EntryRow x) ≡ false
unfolding item_in
no_item x = refl

no_change : (x : Entry) → change_in x.number (EntryRow x) ≡ false
unfolding change_in
no_change x = refl

not_before : (x : Entry) → entry_before x.number (EntryRow x) ≡ false
unfolding entry_before
not_before x = ne_eqb (x.number + 1) x.number (λ e. absurd (omega arith))

pub entry_words : (rows : List Row) (e : Entry)
    → row_words (rows ++ EntryRow e ∷ []) (length rows) (EntryRow e) []
    ≡ (9 + kind_code e.asked * 2 ^ 8 + names e.asked * 2 ^ 32) ∷ e.at ∷ (e.client * 2 ^ 32 + e.line) ∷ e.number
    ∷ place_from (item_in e.number) 0 rows ∷ place_from (change_in e.number) 0 rows ∷ place_from (entry_before e.number) 0 rows ∷ 0 ∷ []
unfolding aims fixed_words pointer_word place_from
entry_words rows e =
    own rows (EntryRow e)
    ∙ rw (place_kept (item_in e.number) 0 rows (EntryRow e) (no_item e), place_kept (change_in e.number) 0 rows (EntryRow e) (no_change e), place_kept (entry_before e.number) 0 rows (EntryRow e) (not_before e)) refl

module _ (old more : List Row) (g : Grown) (is : IsGrowth old more g) (v : ℕ) (place : v ≡ length (old ++ more)) where
  abbrev all : List Row
  all = old ++ more

  headed : IsHeaded (old ++ more)
  headed = headers_stay old more is.headed

  -- a record whose pointers are all known
  general : (new : Row) (words : List ℕ) (tails : List Tail) → 0 < length words → AllByRecursion (IsOpen (words_of all)) tails → Once (stores_to v tails)
      → AllByRecursion (λ t. IsAimed all new (word_number t)) tails → ((i : ℕ) → IsAimed all new i → names_word (stores_to v tails) i ≡ true)
      → row_words (all ++ new ∷ []) (length all) new [] ≡ words
      → IsGrowth old (more ++ new ∷ []) (filled_by v tails (with_words g words))
  general new words tails l opened once aimed only w =
      grown_by old more g is new words v tails place l opened once
      (ap (λ ws. stored (stores_to v tails) (words_of all) ++ ws) (sym w)
      ∙ subst (λ n. stored (stores_to n tails) (words_of all) ++ row_words (all ++ new ∷ []) (length all) new [] ≡ words_of (all ++ new ∷ [])) (sym place)
      (aimed_pushed all new tails headed aimed (subst (λ n. (i : ℕ) → IsAimed all new i → names_word (stores_to n tails) i ≡ true) place only)))

  pub item_grown : (i : Item) (first id : ℕ) (before : Option ℕ) → first ≡ 8 + i.side * 2 ^ 8 → i.id ≡ id → ItemsEnd i.entry all before
      → IsGrowth old (more ++ ItemRow i ∷ []) (filled_by v (tails_before 4 before) (with_words g (first ∷ id ∷ 0 ∷ 0 ∷ 0 ∷ 0 ∷ 0 ∷ 0 ∷ [])))
  unfolding passes
  item_grown i first id None f q none =
      general (ItemRow i) (first ∷ id ∷ 0 ∷ 0 ∷ 0 ∷ 0 ∷ 0 ∷ 0 ∷ []) [] (omega arith) tt (once_none v) tt
      (λ w a. absurd (false≢true (sym (all_at (λ aim. passes aim (ItemRow i) ≡ false) (aims a.row) a.k refl (no_items i a.row (any_at (is_item_of i.entry) all a.place a.row none a.there))) ∙ a.passing)))
      (item_words all i ∙ rw (f, sym q) refl)
  item_grown i first id (Some p) f q ends =
      let front : List Row = ends.0 in
      let last : Item = ends.1 in
      let e : all ≡ front ++ ItemRow last ∷ [] = ends.3 in
      let n : last.entry ≡ i.entry = ends.4 in
      let z : get_or (words_of all) (8 * p + 4) 0 ≡ 0 = item_end all front last p e ends.5 in
      let t : Tail = record { spot = p; word = 4 } in
      let m : p < length all = behind all front (ItemRow last) p e ends.5 in
      let b : 8 * p + 4 < length (words_of all) = (let k = length-words_of all in omega arith) in
      let aimed : IsAimed all (ItemRow i) (8 * p + 4) = record {
        place = p;
        k = 0;
        row = ItemRow last;
        there = ap (λ rs. slice_get rs p) e ∙ (ap (slice_get (front ++ ItemRow last ∷ [])) ends.5 ∙ get_last front (ItemRow last));
        pointer = omega arith;
        number = omega arith;
        passing = item_passes i last n;
        empty = z;
      } in
      general (ItemRow i) (first ∷ id ∷ 0 ∷ 0 ∷ 0 ∷ 0 ∷ 0 ∷ 0 ∷ []) (t ∷ []) (omega arith)
      ((omega arith, b, z), tt) (once_one v t) (aimed, tt)
      (λ w a. named_one v t w (sym (next_item all front last i p w ends.2 e n ends.5 a)))
      (item_words all i ∙ rw (f, sym q) refl)

  pub change_grown : (n : ℕ) (c : Changed) (first edge_at : ℕ) (last : Tail) (before : Option ℕ) → first ≡ 7 + bit c.active * 2 ^ 8 → last.word < 8 → place_from (is_edge c.pair) 0 all ≡ edge_at
      → ChangesEndAt c.pair all (word_number last) → ChangesEnd n all before
      → IsGrowth old (more ++ ChangeRow n c ∷ []) (filled_by v (last ∷ tails_before 6 before) (with_words g (first ∷ c.pair.a ∷ c.pair.b ∷ n ∷ edge_at ∷ 0 ∷ 0 ∷ 0 ∷ [])))
  change_grown n c first edge_at last before f l at ends before_ends = go before before_ends
    where
      x : IsToChanges c.pair all (word_number last)
      x = ends.along

      aimed : IsAimed all (ChangeRow n c) (word_number last)
      aimed = record { place = x.place; k = x.k; row = x.row; there = x.there; pointer = x.pointer; number = x.number; passing = to_changes_passes n c x.row x.k x.leads; empty = ends.empty }

      opened : IsOpen (words_of all) last
      opened =
          let q : x.place < length all = slice_get_within all x.place x.row x.there in
          let m : word_number last ≡ 8 * x.place + (4 + x.k) = x.number in
          let k : x.k < 4 = x.pointer in
          let n : length (words_of all) ≡ 8 * length all = length-words_of all in
          (l, omega arith, ends.empty)

      words : row_words (all ++ ChangeRow n c ∷ []) (length all) (ChangeRow n c) [] ≡ first ∷ c.pair.a ∷ c.pair.b ∷ n ∷ edge_at ∷ 0 ∷ 0 ∷ 0 ∷ []
      words = change_words all n c ∙ rw (f, sym at) refl

      both : (w : ℕ) (p : ℕ) → (IsToChanges c.pair all w) ⊎ (w ≡ 8 * p + 6) → IsAimed all (ChangeRow n c) w → names_word (stores_to v (last ∷ tails_before 6 (Some p))) w ≡ true
      both w p (inl y) a = named_two v last (record { spot = p; word = 6 }) w (inl (sym (ends.only w y a.empty)))
      both w p (inr y) a = named_two v last (record { spot = p; word = 6 }) w (inr (sym y))

      go : (o : Option ℕ) → ChangesEnd n all o → IsGrowth old (more ++ ChangeRow n c ∷ []) (filled_by v (last ∷ tails_before 6 o) (with_words g (first ∷ c.pair.a ∷ c.pair.b ∷ n ∷ edge_at ∷ 0 ∷ 0 ∷ 0 ∷ [])))
      go None none =
          general (ChangeRow n c) (first ∷ c.pair.a ∷ c.pair.b ∷ n ∷ edge_at ∷ 0 ∷ 0 ∷ 0 ∷ []) (last ∷ []) (omega arith)
          (opened, tt) (once_one v last) (aimed, tt)
          (λ w a. named_one v last w (sym (ends.only w (first_change all n c w none a) a.empty)))
          words
      go (Some p) b =
          let front : List Row = b.0 in
          let prev : Changed = b.1 in
          let e : all ≡ front ++ ChangeRow n prev ∷ [] = b.3 in
          let z : get_or (words_of all) (8 * p + 6) 0 ≡ 0 = change_end all front n prev p e b.4 in
          let t : Tail = record { spot = p; word = 6 } in
          let m : p < length all = behind all front (ChangeRow n prev) p e b.4 in
          let inside : 8 * p + 6 < length (words_of all) = (let k = length-words_of all in omega arith) in
          let there : slice_get all p ≡ Some (ChangeRow n prev) = ap (λ rs. slice_get rs p) e ∙ (ap (slice_get (front ++ ChangeRow n prev ∷ [])) b.4 ∙ get_last front (ChangeRow n prev)) in
          let second : IsAimed all (ChangeRow n c) (8 * p + 6) = record { place = p; k = 2; row = ChangeRow n prev; there = there; pointer = omega arith; number = omega arith; passing = change_passes n c prev; empty = z } in
          let low : x.k ≤ 1 = to_changes_low c.pair x.row x.k x.leads in
          let number : word_number last ≡ 8 * x.place + (4 + x.k) = x.number in
          general (ChangeRow n c) (first ∷ c.pair.a ∷ c.pair.b ∷ n ∷ edge_at ∷ 0 ∷ 0 ∷ 0 ∷ []) (last ∷ t ∷ []) (omega arith)
          (opened, ((omega arith, inside, z), tt)) (once_two v last t (ne_eqb (8 * p + 6) (word_number last) (λ q. omega arith))) (aimed, (second, tt))
          (λ w a. both w p (next_change all front n prev c p w b.2 e b.4 a) a)
          words

  pub entry_grown : (e : Entry) (words : List ℕ) (places : List ℕ) → 0 < length words → row_words (all ++ EntryRow e ∷ []) (length all) (EntryRow e) [] ≡ words
      → IsFalse (list_any (is_entry (e.number + 1)) all) → AreRetired e all places
      → IsGrowth old (more ++ EntryRow e ∷ []) (filled_by v (tails_at places) (with_words g words))
  entry_grown e words places l w none retired =
      general (EntryRow e) words (tails_at places) l (retired_open all e places retired.all) (retired_once v places retired.differ) (retired_aimed all e places retired.all)
      (λ i a. retired_named v all e places i none retired.only a)
      w
