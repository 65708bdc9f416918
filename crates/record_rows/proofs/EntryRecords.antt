-- The records of a log's entries, from the newest to the first: where each stands, and where the pointer to the entry before leads.
use Rattle.std.proofs.Common.{◌≡◌, ℕ, zero, suc, ◌+◌, ◌-◌, ◌<◌, ◌≤◌, Bool, true, false, cond, eqb, List, [], ◌∷◌, ◌++◌, length, map, Option, Some, None, refl, sym, ◌∙◌, ap, subst, inl, inr, ◌⊎◌, arith, length-append}
use Rattle.std.specs.List.{AllByRecursion, slice_get}
use Rattle.std.proofs.lemmas.Bool.{eq-eqb, ne_eqb, cond-false}
use Rattle.std.proofs.lemmas.List.{append_assoc}
use Rattle.op_model.specs.declared.base.Dataset.{Dataset}
use Rattle.op_model.specs.declared.base.Base.{Base}
use Rattle.op_model.specs.declared.entry.Entry.{Entry}
use Rattle.op_model.specs.Operations.{first_entry, next_entry, entry_of}
use Rattle.op_model.specs.Legal.{Legal}
use Rattle.op_model.proofs.HistoryLemmas.{legal_prefix}
use Rattle.record_rows.specs.Rows.{Row, HeaderRow, SupervoxelRow, ChunkRow, NodeRow, LinkRow, EdgeRow, ChangeRow, ItemRow, EntryRow}
use Rattle.record_rows.specs.Chains.{entry_before}
use Rattle.record_rows.specs.Words.{place_from}
use Rattle.record_rows.specs.LogRows.{marks, chunks, new_edges, new_nodes, new_links, entry_rows, base_rows, rows_of}
use Rattle.record_rows.specs.Readings.{Holds, place_of, first_place}
use Rattle.record_rows.proofs.DifferLemmas.{all_append, all_more, all_each, all_map}

-- the entry, if the record is one of an entry
unfoldable pub entry_told : Row → Option Entry
entry_told (EntryRow e) = Some e
entry_told row = None

abbrev pub NoEntry : Row → Type 0
NoEntry row = entry_told row ≡ None

-- the record of an entry stands at the place, and these are the entries before it
pub record Stand (d : Dataset) (b : Base) (log : List Entry) (place : ℕ) (e : Entry) : Type 0 where
  pub newer : List Entry
  pub older : List Entry
  pub whole : log ≡ newer ++ e ∷ older
  pub stands : place ≡ length (rows_of d b (e ∷ older)) - 1

pub get_cases : (xs ys : List Row) (p : ℕ) (row : Row) → slice_get (xs ++ ys) p ≡ Some row → (slice_get xs p ≡ Some row) ⊎ ((q : ℕ) × (p ≡ length xs + q) × (slice_get ys q ≡ Some row))
get_cases [] ys p row h = inr (p, omega arith, h)
get_cases (x ∷ xs) ys zero row h = inl h
get_cases (x ∷ xs) ys (suc p) row h =
    elim (get_cases xs ys p row h) [
      | inl s ↦ inl s
      | inr s ↦ inr (s.0, (let e : p ≡ length xs + s.0 = s.1 in omega arith), s.2)
    ]

get_behind : (xs ys : List Row) (p q : ℕ) → p ≡ length xs + q → slice_get (xs ++ ys) p ≡ slice_get ys q
get_behind [] ys p q h = ap (slice_get ys) (omega arith)
get_behind (x ∷ xs) ys zero q h = absurd (omega arith)
get_behind (x ∷ xs) ys (suc p) q h = get_behind xs ys p q (omega arith)

get_front : (xs ys : List Row) (p : ℕ) (row : Row) → slice_get xs p ≡ Some row → slice_get (xs ++ ys) p ≡ Some row
get_front [] ys p row h = cc
get_front (x ∷ xs) ys zero row h = h
get_front (x ∷ xs) ys (suc p) row h = get_front xs ys p row h

not_among : (xs : List Row) (p : ℕ) (e : Entry) → AllByRecursion NoEntry xs → slice_get xs p ≡ Some (EntryRow e) → ⊥
unfolding entry_told
not_among [] p e a h = cc
not_among (x ∷ xs) zero e a h = let q : x ≡ EntryRow e = cc in let n : entry_told x ≡ None = a.0 in let m : entry_told x ≡ Some e = ap entry_told q in cc
not_among (x ∷ xs) (suc p) e a h = not_among xs p e a.1 h

the_one : (g e : Entry) (q : ℕ) → slice_get (EntryRow g ∷ []) q ≡ Some (EntryRow e) → (q ≡ 0) × (e ≡ g)
unfolding entry_told
the_one g e zero h = let r : EntryRow g ≡ EntryRow e = cc in let s : Some g ≡ Some e = ap entry_told r in (refl, cc)
the_one g e (suc q) h = cc

-- a search goes on behind records that don't pass
passed_over : (test : Row → Bool) (place : ℕ) (xs ys : List Row) → AllByRecursion (λ r. test r ≡ false) xs → place_from test place (xs ++ ys) ≡ place_from test (place + length xs) ys
unfolding place_from
passed_over test place [] ys a = ap (λ n. place_from test n ys) (omega arith)
passed_over test place (x ∷ xs) ys a =
    let i : place + 1 + length xs ≡ place + length (x ∷ xs) = omega arith in
    let t : test x ≡ false = a.0 in
    rw t (passed_over test (place + 1) xs ys a.1 ∙ ap (λ n. place_from test n ys) i)

none_found : (test : Row → Bool) (place : ℕ) (xs : List Row) → AllByRecursion (λ r. test r ≡ false) xs → place_from test place xs ≡ 0
unfolding place_from
none_found test place [] a = refl
none_found test place (x ∷ xs) a = let t : test x ≡ false = a.0 in rw t (none_found test (place + 1) xs a.1)

-- what was found stays when more records come behind
found_stays : (test : Row → Bool) (place q : ℕ) (xs ys : List Row) → place_from test place xs ≡ suc q → place_from test place (xs ++ ys) ≡ suc q
unfolding place_from
found_stays test place q [] ys h = cc
found_stays test place q (x ∷ xs) ys h = go (test x) h (found_stays test (place + 1) q xs ys)
  where
    go : (t : Bool) → cond t place (place_from test (place + 1) xs) ≡ suc q → (place_from test (place + 1) xs ≡ suc q → place_from test (place + 1) (xs ++ ys) ≡ suc q)
        → cond t place (place_from test (place + 1) (xs ++ ys)) ≡ suc q
    go true h ih = h
    go false h ih = ih h

place_some : (p : ℕ) → 1 ≤ p → place_of p ≡ Some p
unfolding place_of
place_some p h = cond-false (eqb p 0) None (Some p) (ne_eqb p 0 (λ e. absurd (let q : p ≡ 0 = e in omega arith)))

not_before : (n : ℕ) (row : Row) → NoEntry row → entry_before n row ≡ false
unfolding entry_before entry_told
not_before n (HeaderRow d s c) h = refl
not_before n (SupervoxelRow v) h = refl
not_before n (ChunkRow c) h = refl
not_before n (NodeRow m) h = refl
not_before n (LinkRow l) h = refl
not_before n (EdgeRow made e) h = refl
not_before n (ChangeRow entry c) h = refl
not_before n (ItemRow i) h = refl
not_before n (EntryRow e) h = cc

module _ (d : Dataset) (b : Base) where
  -- an entry's records but its last
  pub front : List Entry → Entry → List Row
  front log e =
      map (EdgeRow e.number) (new_edges d b log e)
      ++ (map NodeRow (new_nodes d b (e ∷ log) e.number) ++ (map LinkRow (new_links d b (e ∷ log) e.number) ++ (map ItemRow (marks e.number e.asked) ++ map (ChangeRow e.number) e.changed)))

  pub front_then : (log : List Entry) (e : Entry) → entry_rows d b log e ≡ front log e ++ EntryRow e ∷ []
  unfolding entry_rows front
  front_then log e = simp append_assoc

  pub no_front : (log : List Entry) (e : Entry) → AllByRecursion NoEntry (front log e)
  unfolding front entry_told
  no_front log e =
      all_append NoEntry (map (EdgeRow e.number) (new_edges d b log e)) _ (all_map (EdgeRow e.number) NoEntry (new_edges d b log e) (all_each _ (new_edges d b log e) (λ x. refl)))
      (all_append NoEntry (map NodeRow (new_nodes d b (e ∷ log) e.number)) _ (all_map NodeRow NoEntry (new_nodes d b (e ∷ log) e.number) (all_each _ (new_nodes d b (e ∷ log) e.number) (λ x. refl)))
      (all_append NoEntry (map LinkRow (new_links d b (e ∷ log) e.number)) _ (all_map LinkRow NoEntry (new_links d b (e ∷ log) e.number) (all_each _ (new_links d b (e ∷ log) e.number) (λ x. refl)))
      (all_append NoEntry (map ItemRow (marks e.number e.asked)) _ (all_map ItemRow NoEntry (marks e.number e.asked) (all_each _ (marks e.number e.asked) (λ x. refl)))
      (all_map (ChangeRow e.number) NoEntry e.changed (all_each _ e.changed (λ x. refl))))))

  no_base : AllByRecursion NoEntry (base_rows d b)
  unfolding base_rows entry_told
  no_base = (
    refl,
    all_append NoEntry (map SupervoxelRow b.supervoxels) (map ChunkRow (chunks d b))
        (all_map SupervoxelRow NoEntry b.supervoxels (all_each _ b.supervoxels (λ x. refl)))
        (all_map ChunkRow NoEntry (chunks d b) (all_each _ (chunks d b) (λ x. refl))),
  )

  pub length-rows : (e : Entry) (log : List Entry) → length (rows_of d b (e ∷ log)) ≡ length (rows_of d b log) + length (front log e) + 1
  unfolding rows_of
  length-rows e log = omega (arith, length-append (rows_of d b log) (entry_rows d b log e), ap length (front_then log e), length-append (front log e) (EntryRow e ∷ []))

  -- a log has more records than entries
  pub more_rows : (log : List Entry) → length log < length (rows_of d b log)
  unfolding rows_of base_rows
  more_rows [] = omega arith
  more_rows (e ∷ log) = omega (arith, more_rows log, length-rows e log)

  -- an entry has records
  pub more_before : (e : Entry) (log : List Entry) → length (rows_of d b log) < length (rows_of d b (e ∷ log))
  more_before e log = omega (arith, length-rows e log)

  -- an entry's record tells of an entry of the log, and those before it
  pub stands_in : (log : List Entry) (p : ℕ) (e : Entry) → Holds d b log p (EntryRow e) → Stand d b log p e
  unfolding rows_of
  stands_in [] p e h = absurd (not_among (base_rows d b) p e no_base h)
  stands_in (g ∷ log) p e h =
      elim (get_cases (rows_of d b log) (entry_rows d b log g) p (EntryRow e) h) [
        | inl s ↦ let r = stands_in log p e s in record { newer = g ∷ r.newer; older = r.older; whole = ap (λ l. g ∷ l) r.whole; stands = r.stands }
        | inr s ↦ last s.0 s.1 (get_cases (front log g) (EntryRow g ∷ []) s.0 (EntryRow e) (sym (ap (λ rs. slice_get rs s.0) (front_then log g)) ∙ s.2))
      ]
    where
      last : (q : ℕ) → p ≡ length (rows_of d b log) + q
          → (slice_get (front log g) q ≡ Some (EntryRow e)) ⊎ ((r : ℕ) × (q ≡ length (front log g) + r) × (slice_get (EntryRow g ∷ []) r ≡ Some (EntryRow e))) → Stand d b (g ∷ log) p e
      last q i (inl s) = absurd (not_among (front log g) q e (no_front log g) s)
      last q i (inr s) =
          let o = the_one g e s.0 s.2 in
          let z : s.0 ≡ 0 = o.0 in
          let k : q ≡ length (front log g) + s.0 = s.1 in
          let n = length-rows g log in
          let m : e ≡ g = o.1 in
          record {
            newer = [];
            older = log;
            whole = ap (λ x. x ∷ log) (sym m);
            stands = subst (λ x. p ≡ length (rows_of d b (x ∷ log)) - 1) (sym m) (omega arith);
          }

  -- the record of each entry of the log
  pub stands_at : (newer : List Entry) (e : Entry) (older : List Entry) → Holds d b (newer ++ e ∷ older) (length (rows_of d b (e ∷ older)) - 1) (EntryRow e)
  unfolding rows_of
  stands_at [] e older =
      let n = length-rows e older in
      get_behind (rows_of d b older) (entry_rows d b older e) _ (length (front older e)) (omega arith)
      ∙ (ap (λ rs. slice_get rs (length (front older e))) (front_then older e) ∙ get_behind (front older e) (EntryRow e ∷ []) (length (front older e)) 0 (omega arith))
  stands_at (g ∷ newer) e older = get_front (rows_of d b (newer ++ e ∷ older)) (entry_rows d b (newer ++ e ∷ older) g) _ (EntryRow e) (stands_at newer e older)

  -- entries are numbered as they come
  pub number_told : (e : Entry) (log : List Entry) → Legal d b (e ∷ log) → e.number ≡ length log
  unfolding first_entry next_entry entry_of
  number_told e [] legal = ap (λ f. f.number) legal.0
  number_told e (f ∷ log) legal = ap (λ g. g.number) legal.0.2

  pub numbers_below : (e : Entry) (log : List Entry) → Legal d b (e ∷ log) → AllByRecursion (λ f. f.number < length (e ∷ log)) (e ∷ log)
  numbers_below e [] legal = (let n = number_told e [] legal in omega arith, tt)
  numbers_below e (f ∷ log) legal = (
    (let n = number_told e (f ∷ log) legal in omega arith),
    all_more (λ g. g.number < length (f ∷ log)) (λ g. g.number < length (e ∷ f ∷ log)) (f ∷ log) (λ g q. omega arith) (numbers_below f log legal.1),
  )

  no_rows_before : (n : ℕ) (log : List Entry) → AllByRecursion (λ e. eqb (e.number + 1) n ≡ false) log → AllByRecursion (λ r. entry_before n r ≡ false) (rows_of d b log)
  unfolding rows_of entry_before
  no_rows_before n [] a = all_more NoEntry (λ r. entry_before n r ≡ false) (base_rows d b) (not_before n) no_base
  no_rows_before n (e ∷ log) a =
      all_append (λ r. entry_before n r ≡ false) (rows_of d b log) (entry_rows d b log e) (no_rows_before n log a.1)
      (subst (AllByRecursion (λ r. entry_before n r ≡ false)) (sym (front_then log e))
      (all_append (λ r. entry_before n r ≡ false) (front log e) (EntryRow e ∷ []) (all_more NoEntry (λ r. entry_before n r ≡ false) (front log e) (not_before n) (no_front log e)) (a.0, tt)))

  older_numbers : (f : Entry) (older : List Entry) → Legal d b (f ∷ older) → AllByRecursion (λ e. eqb (e.number + 1) (f.number + 1) ≡ false) older
  older_numbers f [] legal = tt
  older_numbers f (g ∷ older) legal =
      all_more (λ e. e.number < length (g ∷ older)) (λ e. eqb (e.number + 1) (f.number + 1) ≡ false) (g ∷ older)
      (λ e q. ne_eqb (e.number + 1) (f.number + 1) (λ s. absurd (let n = number_told f (g ∷ older) legal in let t : e.number + 1 ≡ f.number + 1 = s in omega arith)))
      (numbers_below g older legal.1)

  found_here : (f : Entry) (older : List Entry) → Legal d b (f ∷ older) → place_from (entry_before (f.number + 1)) 0 (rows_of d b (f ∷ older)) ≡ length (rows_of d b (f ∷ older)) - 1
  unfolding rows_of place_from entry_before
  found_here f older legal =
      let test : Row → Bool = entry_before (f.number + 1) in
      let old : List Row = rows_of d b older in
      let l = length-rows f older in
      let t : eqb (f.number + 1) (f.number + 1) ≡ true = eq-eqb (f.number + 1) (f.number + 1) refl in
      passed_over test 0 old (entry_rows d b older f) (no_rows_before (f.number + 1) older (older_numbers f older legal))
      ∙ (ap (place_from test (0 + length old)) (front_then older f)
      ∙ (passed_over test (0 + length old) (front older f) (EntryRow f ∷ []) (all_more NoEntry (λ r. test r ≡ false) (front older f) (not_before (f.number + 1)) (no_front older f))
      ∙ rw t (omega arith)))

  found_later : (test : Row → Bool) (q : ℕ) (newer log : List Entry) → place_from test 0 (rows_of d b log) ≡ suc q → place_from test 0 (rows_of d b (newer ++ log)) ≡ suc q
  unfolding rows_of
  found_later test q [] log h = h
  found_later test q (e ∷ newer) log h = found_stays test 0 q (rows_of d b (newer ++ log)) (entry_rows d b (newer ++ log) e) (found_later test q newer log h)

  -- where the record of the newest entry stands, if there is one
  unfoldable pub newest_place : List Entry → Option ℕ
  newest_place [] = None
  newest_place (e ∷ log) = Some (length (rows_of d b (e ∷ log)) - 1)

  before_first : (log : List Entry) → first_place (entry_before 0) (rows_of d b log) ≡ None
  unfolding first_place place_of
  before_first log = ap place_of (none_found (entry_before 0) 0 (rows_of d b log) (no_rows_before 0 log (all_each _ log (λ e. ne_eqb (e.number + 1) 0 (λ s. absurd (let t : e.number + 1 ≡ 0 = s in omega arith))))))

  before_later : (newer : List Entry) (f : Entry) (older : List Entry) → Legal d b (f ∷ older) → first_place (entry_before (f.number + 1)) (rows_of d b (newer ++ f ∷ older)) ≡ Some (length (rows_of d b (f ∷ older)) - 1)
  unfolding first_place
  before_later newer f older legal =
      let m = more_rows (f ∷ older) in
      let q : ℕ = length (rows_of d b (f ∷ older)) - 2 in
      let s : suc q ≡ length (rows_of d b (f ∷ older)) - 1 = omega arith in
      ap place_of (found_later (entry_before (f.number + 1)) q newer (f ∷ older) (found_here f older legal ∙ sym s))
      ∙ (place_some (suc q) (omega arith) ∙ ap Some s)

  -- the pointer to the entry before leads to the newest of those that are older
  pub before_leads : (newer : List Entry) (e : Entry) (older : List Entry) → Legal d b (newer ++ e ∷ older) → first_place (entry_before e.number) (rows_of d b (newer ++ e ∷ older)) ≡ newest_place older
  unfolding newest_place
  before_leads newer e [] legal =
      ap (λ n. first_place (entry_before n) (rows_of d b (newer ++ e ∷ []))) (number_told e [] (legal_prefix d b newer e [] legal)) ∙ before_first (newer ++ e ∷ [])
  before_leads newer e (f ∷ older) legal =
      let old : Legal d b (e ∷ f ∷ older) = legal_prefix d b newer e (f ∷ older) legal in
      let n : e.number ≡ f.number + 1 = omega (arith, number_told e (f ∷ older) old, number_told f older old.1) in
      ap (λ k. first_place (entry_before k) (rows_of d b (newer ++ e ∷ f ∷ older))) n
      ∙ (ap (λ l. first_place (entry_before (f.number + 1)) (rows_of d b l)) (sym (moved newer e (f ∷ older))) ∙ before_later (newer ++ e ∷ []) f older old.1)
    where
      moved : (xs : List Entry) (e : Entry) (ys : List Entry) → (xs ++ e ∷ []) ++ ys ≡ xs ++ e ∷ ys
      moved [] e ys = refl
      moved (x ∷ xs) e ys = ap (λ l. x ∷ l) (moved xs e ys)
