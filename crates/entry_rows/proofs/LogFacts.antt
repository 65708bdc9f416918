-- What a log's records tell of its next entry: they name earlier entries alone, and the last of them is an entry's own.
use Rattle.std.proofs.Common.{◌≡◌, ℕ, ◌+◌, ◌<◌, ◌≤◌, Bool, true, false, List, [], ◌∷◌, ◌++◌, length, length-append, map, refl, sym, ◌∙◌, ap, subst, arith, append_assoc, append-nil}
use Rattle.std.specs.List.{AllByRecursion}
use Rattle.std.proofs.lemmas.Bool.{ne_eqb, eq-eqb}
use Rattle.op_model.specs.declared.base.Dataset.{Dataset}
use Rattle.op_model.specs.declared.base.Base.{Base}
use Rattle.op_model.specs.declared.request.AskedPair.{AskedPair}
use Rattle.op_model.specs.declared.request.Edit.TheVariants.{Merge, Split, Undo, Redo}
use Rattle.op_model.specs.declared.entry.Asked.{Asked}
use Rattle.op_model.specs.declared.entry.Asked.TheVariants as asked
use Rattle.op_model.specs.declared.entry.Entry.{Entry}
use Rattle.op_model.specs.Legal.{Legal}
use Rattle.record_rows.specs.Rows.{Row, HeaderRow, SupervoxelRow, ChunkRow, NodeRow, LinkRow, EdgeRow, ChangeRow, ItemRow, EntryRow, Item}
use Rattle.record_rows.specs.Chains.{entry_before}
use Rattle.record_rows.specs.Words.{place_from}
use Rattle.record_rows.specs.LogRows.{chunks, ends_from, entry_rows, marks, marks_from, new_edges, new_links, new_nodes, rows_of}
use Rattle.record_rows.proofs.DifferLemmas.{all_append, all_each, all_map, all_more}
use Rattle.record_rows.proofs.EntryRecords.{NoEntry, entry_told, front, front_then, no_front, number_told}
use Rattle.record_rows.proofs.RowFacts.{all_base}
use Rattle.row_append.proofs.FoundLemmas.{found_last}
use Rattle.base_rows.proofs.Passing.{NonePass, none_both}
use Rattle.grown_rows.specs.Aimed.{AreRetired, is_change_of, is_entry, is_item_of}
use Rattle.entry_rows.specs.LogLists.{LogListsTell}
use Rattle.entry_rows.proofs.RetireLemmas.{headed_log, paths_are_retired}

-- the change, item or entry is of an entry below this number
abbrev Older : ℕ → Row → Type 0
Older n (ChangeRow k c) = k < n
Older n (ItemRow i) = i.entry < n
Older n (EntryRow x) = x.number < n
Older n row = Unit {0}

older_more : (m n : ℕ) → m ≤ n → (row : Row) → Older m row → Older n row
older_more m n l (ChangeRow k c) h = let q : k < m = h in omega arith
older_more m n l (ItemRow i) h = let q : i.entry < m = h in omega arith
older_more m n l (EntryRow x) h = let q : x.number < m = h in omega arith
older_more m n l (HeaderRow d s c) h = tt
older_more m n l (SupervoxelRow v) h = tt
older_more m n l (ChunkRow c) h = tt
older_more m n l (NodeRow x) h = tt
older_more m n l (LinkRow x) h = tt
older_more m n l (EdgeRow k x) h = tt

-- each item of a request is of the entry
marks_of : (n place side : ℕ) (vs : List ℕ) → AllByRecursion (λ (i : Item). i.entry ≡ n) (marks_from n place side vs)
unfolding marks_from
marks_of n place side [] = tt
marks_of n place side (v ∷ vs) = (refl, marks_of n (place + 1) side vs)

ends_of : (n place : ℕ) (ps : List AskedPair) → AllByRecursion (λ (i : Item). i.entry ≡ n) (ends_from n place ps)
unfolding ends_from
ends_of n place [] = tt
ends_of n place (p ∷ ps) = (refl, (refl, ends_of n (place + 2) ps))

items_of : (n : ℕ) (a : Asked) → AllByRecursion (λ (i : Item). i.entry ≡ n) (marks n a)
unfolding marks
items_of n (asked.Edit (Merge pairs)) = ends_of n 0 pairs
items_of n (asked.Edit (Split sources sinks)) =
    all_append (λ (i : Item). i.entry ≡ n) (marks_from n 0 1 sources) (marks_from n (length sources) 2 sinks) (marks_of n 0 1 sources) (marks_of n (length sources) 2 sinks)
items_of n (asked.Edit (Undo op)) = tt
items_of n (asked.Edit (Redo op)) = tt
items_of n asked.Ingest = tt

none_of_all : (P : Row → Type 0) (test : Row → Bool) → ((row : Row) → P row → test row ≡ false) → (rows : List Row) → AllByRecursion P rows → NonePass test rows
none_of_all P test f [] a = refl
none_of_all P test f (r ∷ rows) a = rw (f r a.0, none_of_all P test f rows a.1) refl

item_older : (n : ℕ) (row : Row) → Older n row → is_item_of n row ≡ false
unfolding is_item_of
item_older n (ItemRow i) h = ne_eqb i.entry n (λ e. let q : i.entry < n = h in omega arith)
item_older n (EntryRow x) h = ne_eqb x.number n (λ e. let q : x.number < n = h in omega arith)
item_older n (HeaderRow d s c) h = refl
item_older n (SupervoxelRow v) h = refl
item_older n (ChunkRow c) h = refl
item_older n (NodeRow x) h = refl
item_older n (LinkRow x) h = refl
item_older n (EdgeRow k x) h = refl
item_older n (ChangeRow k c) h = refl

change_older : (n : ℕ) (row : Row) → Older n row → is_change_of n row ≡ false
unfolding is_change_of
change_older n (ChangeRow k c) h = ne_eqb k n (λ e. let q : k < n = h in omega arith)
change_older n (EntryRow x) h = ne_eqb x.number n (λ e. let q : x.number < n = h in omega arith)
change_older n (HeaderRow d s c) h = refl
change_older n (SupervoxelRow v) h = refl
change_older n (ChunkRow c) h = refl
change_older n (NodeRow x) h = refl
change_older n (LinkRow x) h = refl
change_older n (EdgeRow k x) h = refl
change_older n (ItemRow i) h = refl

entry_older : (n : ℕ) (row : Row) → Older n row → (is_entry (n + 1) row ≡ false) × (entry_before (n + 1) row ≡ false)
unfolding is_entry entry_before
entry_older n (EntryRow x) h = (ne_eqb (n + 1) x.number (λ e. let q : x.number < n = h in omega arith), ne_eqb (x.number + 1) (n + 1) (λ e. let q : x.number < n = h in omega arith))
entry_older n (HeaderRow d s c) h = (refl, refl)
entry_older n (SupervoxelRow v) h = (refl, refl)
entry_older n (ChunkRow c) h = (refl, refl)
entry_older n (NodeRow x) h = (refl, refl)
entry_older n (LinkRow x) h = (refl, refl)
entry_older n (EdgeRow k x) h = (refl, refl)
entry_older n (ChangeRow k c) h = (refl, refl)
entry_older n (ItemRow i) h = (refl, refl)

not_before : (n : ℕ) (row : Row) → NoEntry row → entry_before n row ≡ false
unfolding entry_told entry_before
not_before n (EntryRow x) h = cc
not_before n (HeaderRow d s c) h = refl
not_before n (SupervoxelRow v) h = refl
not_before n (ChunkRow c) h = refl
not_before n (NodeRow x) h = refl
not_before n (LinkRow x) h = refl
not_before n (EdgeRow k x) h = refl
not_before n (ChangeRow k c) h = refl
not_before n (ItemRow i) h = refl

own_before : (n : ℕ) (f : Entry) → f.number + 1 ≡ n → entry_before n (EntryRow f) ≡ true
unfolding entry_before
own_before n f e = eq-eqb (f.number + 1) n e

-- no log, or a legal one
abbrev Whole : Dataset → Base → List Entry → Type 0
Whole d b [] = Unit {0}
Whole d b (e ∷ log) = Legal d b (e ∷ log)

module _ (d : Dataset) (b : Base) where
  entry_in : (log : List Entry) (e : Entry) (n : ℕ) → e.number < n → AllByRecursion (Older n) (entry_rows d b log e)
  unfolding entry_rows
  entry_in log e n l =
      all_append (Older n) (map (EdgeRow e.number) (new_edges d b log e)) _ (all_map (EdgeRow e.number) (Older n) (new_edges d b log e) (all_each (λ x. Unit {0}) (new_edges d b log e) (λ x. tt)))
      (all_append (Older n) (map NodeRow (new_nodes d b (e ∷ log) e.number)) _ (all_map NodeRow (Older n) (new_nodes d b (e ∷ log) e.number) (all_each (λ x. Unit {0}) (new_nodes d b (e ∷ log) e.number) (λ x. tt)))
      (all_append (Older n) (map LinkRow (new_links d b (e ∷ log) e.number)) _ (all_map LinkRow (Older n) (new_links d b (e ∷ log) e.number) (all_each (λ x. Unit {0}) (new_links d b (e ∷ log) e.number) (λ x. tt)))
      (all_append (Older n) (map ItemRow (marks e.number e.asked)) _
      (all_map ItemRow (Older n) (marks e.number e.asked) (all_more (λ (i : Item). i.entry ≡ e.number) (λ (i : Item). i.entry < n) (marks e.number e.asked) (λ i q. omega arith) (items_of e.number e.asked)))
      (all_append (Older n) (map (ChangeRow e.number) e.changed) (EntryRow e ∷ []) (all_map (ChangeRow e.number) (Older n) e.changed (all_each (λ c. e.number < n) e.changed (λ c. l))) (l, tt)))))

  older : (e : Entry) (log : List Entry) → Legal d b (e ∷ log) → Whole d b log
  older e [] legal = tt
  older e (f ∷ log) legal = legal.1

  older_rows : (log : List Entry) → Whole d b log → AllByRecursion (Older (length log)) (rows_of d b log)
  unfolding rows_of
  older_rows [] w = all_base d b (Older 0) tt (all_each (λ v. Unit {0}) b.supervoxels (λ v. tt)) (all_each (λ c. Unit {0}) (chunks d b) (λ c. tt))
  older_rows (e ∷ log) w =
      let n : e.number ≡ length log = number_told d b e log w in
      all_append (Older (length (e ∷ log))) (rows_of d b log) (entry_rows d b log e)
      (all_more (Older (length log)) (Older (length (e ∷ log))) (rows_of d b log) (older_more (length log) (length (e ∷ log)) (omega arith)) (older_rows log (older e log w)))
      (entry_in log e (length (e ∷ log)) (omega (arith, n)))

  -- the entry before is the last record
  last_before : (f : Entry) (log : List Entry) → Legal d b (f ∷ log) → place_from (entry_before (length (f ∷ log))) 0 (rows_of d b (f ∷ log)) + 1 ≡ length (rows_of d b (f ∷ log))
  unfolding rows_of
  last_before f log legal =
      let n : f.number ≡ length log = number_told d b f log legal in
      let rows : List Row = rows_of d b log ++ front d b log f in
      let whole : rows_of d b log ++ entry_rows d b log f ≡ rows ++ EntryRow f ∷ [] =
      ap (λ rs. rows_of d b log ++ rs) (front_then d b log f) ∙ sym (append_assoc (rows_of d b log) (front d b log f) (EntryRow f ∷ [])) in
      let k : length (f ∷ log) ≡ length log + 1 = omega arith in
      let first : NonePass (entry_before (length (f ∷ log))) (rows_of d b log) =
      subst (λ m. NonePass (entry_before m) (rows_of d b log)) (sym k)
      (none_of_all (Older (length log)) (entry_before (length log + 1)) (λ row h. (entry_older (length log) row h).1) (rows_of d b log) (older_rows log (older f log legal))) in
      let second : NonePass (entry_before (length (f ∷ log))) (front d b log f) = none_of_all NoEntry (entry_before (length (f ∷ log))) (not_before (length (f ∷ log))) (front d b log f) (no_front d b log f) in
      let found : place_from (entry_before (length (f ∷ log))) 0 (rows ++ EntryRow f ∷ []) ≡ length rows =
      found_last (entry_before (length (f ∷ log))) rows (EntryRow f) (none_both (entry_before (length (f ∷ log))) (rows_of d b log) (front d b log f) first second) (own_before (length (f ∷ log)) f (omega (arith, n))) in
      let s : length (rows ++ EntryRow f ∷ []) ≡ length rows + 1 = length-append rows (EntryRow f ∷ []) in
      ap (λ rs. place_from (entry_before (length (f ∷ log))) 0 rs + 1) whole ∙ (ap (λ p. p + 1) found ∙ (sym s ∙ ap length (sym whole)))

-- a log has more than one record
some_rows : (d : Dataset) (b : Base) (f : Entry) (log : List Entry) → 1 < length (rows_of d b (f ∷ log))
unfolding rows_of
some_rows d b f log =
    let a = length-append (rows_of d b log) (entry_rows d b log f) in
    let c = ap length (headed_log d b log).begins in
    let g = ap length (front_then d b log f) in
    let s = length-append (front d b log f) (EntryRow f ∷ []) in
    omega (arith, a, c, g, s)

pub log_lists_tell : LogListsTell
log_lists_tell d b valid base e f log l legal number are = record {
  headed = headed_log d b (f ∷ log);
  head = are.head;
  edges = are.edges;
  edges_are = are.edges_are;
  nodes = are.nodes;
  links = are.links;
  links_are = are.links_are;
  items = are.items;
  changes = are.changes;
  changes_are = are.changes_are;
  no_items = none_of_all (Older e.number) (is_item_of e.number) (item_older e.number) rows all;
  no_changes = none_of_all (Older e.number) (is_change_of e.number) (change_older e.number) rows all;
  before = subst (λ n. place_from (entry_before n) 0 rows ≡ l.head.before) (sym number) (let a = last_before d b f log legal in let c = are.before in omega (arith, a, c));
  some_before = (let c = are.before in let s = some_rows d b f log in omega (arith, c, s));
  no_after = none_of_all (Older e.number) (is_entry (e.number + 1)) (λ row h. (entry_older e.number row h).0) rows all;
  retired = subst (λ rs. AreRetired e rs l.retired.items) (append-nil rows)
      (paths_are_retired d b valid base e f log [] l.retired.items legal number (record { no_entry = λ p x h. cc; made = λ p n h. cc }) are.retired);
}
  where
    rows : List Row
    rows = rows_of d b (f ∷ log)

    all : AllByRecursion (Older e.number) rows
    all = subst (λ n. AllByRecursion (Older n) rows) (sym number) (older_rows d b (f ∷ log) legal)
