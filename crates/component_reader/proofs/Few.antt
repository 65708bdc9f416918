-- A log has no more edges than records.
use Rattle.std.proofs.Common.{ℕ, zero, suc, ◌+◌, ◌-◌, ◌<◌, ◌≤◌, Bool, true, false, cond, List, [], ◌∷◌, ◌++◌, length, drop, map, arith}
use Rattle.std.proofs.lemmas.List.{length-append}
use Rattle.op_model.specs.declared.base.Dataset.{Dataset}
use Rattle.op_model.specs.declared.base.Base.{Base}
use Rattle.op_model.specs.declared.base.Weight.TheVariants.{Affinity}
use Rattle.op_model.specs.declared.base.Edge.{Edge}
use Rattle.op_model.specs.declared.entry.Changed.{Changed}
use Rattle.op_model.specs.declared.entry.Entry.{Entry}
use Rattle.op_model.specs.Edges.{same_pair, pair_before, put_edge, put_changed, edges_after}
use Rattle.op_model.specs.Labels.{edges}
use Rattle.op_model.specs.Transcript.{log_at}
use Rattle.op_model.specs.Legal.{Legal}
use Rattle.record_rows.specs.Rows.{Row, NodeRow, LinkRow, EdgeRow, ChangeRow, ItemRow, EntryRow}
use Rattle.record_rows.specs.LogRows.{marks, new_nodes, new_links, new_edges, entry_rows, base_rows, rows_of}
use Rattle.record_rows.specs.Readings.{ParentImage}
use Rattle.record_rows.proofs.ImageFacts.{few}
use Rattle.record_rows.proofs.ImageLemmas.{length-map}

put_length : (e : Edge) (fs : List Edge) → length (put_edge e fs) ≤ length fs + 1
unfolding put_edge
put_length e [] = omega arith
put_length e (f ∷ fs) = go (same_pair f.pair e.pair) (pair_before e.pair f.pair) (put_length e fs)
  where
    go : (s t : Bool) → length (put_edge e fs) ≤ length fs + 1 → length (cond s (record f { active = e.active } ∷ fs) (cond t (e ∷ f ∷ fs) (f ∷ put_edge e fs))) ≤ length (f ∷ fs) + 1
    go true t ih = omega arith
    go false true ih = omega arith
    go false false ih = omega (arith, ih)

changed_length : (affinity : ℕ) (cs : List Changed) (fs : List Edge) → length (put_changed affinity cs fs) ≤ length fs + length cs
unfolding put_changed
changed_length affinity [] fs = omega arith
changed_length affinity (c ∷ cs) fs =
    let e : Edge = record { pair = c.pair; weight = Affinity affinity; active = c.active } in
    let p = put_length e fs in
    let q = changed_length affinity cs (put_edge e fs) in
    omega (arith, p, q)

module _ (d : Dataset) (b : Base) where
  entry_length : (log : List Entry) (e : Entry) → length (new_edges d b log e) + length e.changed ≤ length (entry_rows d b log e)
  unfolding entry_rows
  entry_length log e =
      let five : List Row = map (ChangeRow e.number) e.changed ++ EntryRow e ∷ [] in
      let four : List Row = map ItemRow (marks e.number e.asked) ++ five in
      let three : List Row = map LinkRow (new_links d b (e ∷ log) e.number) ++ four in
      let two : List Row = map NodeRow (new_nodes d b (e ∷ log) e.number) ++ three in
      let a = length-append (map (EdgeRow e.number) (new_edges d b log e)) two in
      let b2 = length-append (map NodeRow (new_nodes d b (e ∷ log) e.number)) three in
      let c = length-append (map LinkRow (new_links d b (e ∷ log) e.number)) four in
      let f = length-append (map ItemRow (marks e.number e.asked)) five in
      let g = length-append (map (ChangeRow e.number) e.changed) (EntryRow e ∷ []) in
      let m = length-map (EdgeRow e.number) (new_edges d b log e) in
      let n = length-map (ChangeRow e.number) e.changed in
      omega (arith, a, b2, c, f, g, m, n)

  edges_length : (log : List Entry) → 1 ≤ length log → length (edges d b log) ≤ length (rows_of d b log)
  unfolding edges edges_after rows_of new_edges
  edges_length [] l = absurd (omega arith)
  edges_length (e ∷ []) l =
      let p = changed_length d.merge_affinity e.changed (edges d b []) in
      let q = entry_length [] e in
      let r = length-append (base_rows d b) (entry_rows d b [] e) in
      omega (arith, p, q, r)
  edges_length (e ∷ f ∷ log) l =
      let p = changed_length d.merge_affinity e.changed (edges d b (f ∷ log)) in
      let q = entry_length (f ∷ log) e in
      let r = length-append (rows_of d b (f ∷ log)) (entry_rows d b (f ∷ log) e) in
      let ih = edges_length (f ∷ log) (omega arith) in
      omega (arith, p, q, r, ih)

  rows_more : (k : ℕ) (log : List Entry) → length (rows_of d b (drop k log)) ≤ length (rows_of d b log)
  unfolding rows_of
  rows_more zero log = omega arith
  rows_more (suc k) [] = omega arith
  rows_more (suc k) (e ∷ log) =
      let ih = rows_more k log in
      let r = length-append (rows_of d b log) (entry_rows d b log e) in
      omega (arith, ih, r)

  drop_some : (k : ℕ) (log : List Entry) → k < length log → 1 ≤ length (drop k log)
  drop_some k [] l = absurd (omega arith)
  drop_some zero (e ∷ log) l = omega arith
  drop_some (suc k) (e ∷ log) l = drop_some k log (omega arith)

  legal_some : (log : List Entry) → Legal d b log → 1 ≤ length log
  legal_some [] legal = absurd legal
  legal_some (e ∷ log) legal = omega arith

  -- the edges at a prefix of a log that words tell of
  pub edges_few : (log : List Entry) (words : List ℕ) (prefix : ℕ) → ParentImage d b log words → 1 ≤ prefix → length (edges d b (log_at d b log prefix)) ≤ 16777216
  unfolding log_at
  edges_few log words prefix i low =
      let some = legal_some log i.legal in
      let p = edges_length (drop (length log - prefix) log) (drop_some (length log - prefix) log (omega arith)) in
      let q = rows_more (length log - prefix) log in
      let r = few d b log words i in
      omega (arith, p, q, r)
