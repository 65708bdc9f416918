-- The fault of a table is that of its first record that means nothing.
use Rattle.std.proofs.Common.{◌≡◌, ℕ, ◌+◌, Bool, true, false, cond, List, [], ◌∷◌, ◌++◌, length, Result, Ok, Err, ◌⊎◌, inl, inr, refl, sym, ◌∙◌, ap, arith}
use Rattle.op_model.specs.declared.base.Dataset.{Dataset}
use Rattle.op_model.specs.declared.base.Base.{Base}
use Rattle.op_model.specs.declared.base.Edge.{Edge}
use Rattle.op_model.specs.Edges.{put_edges}
use Rattle.op_model.specs.Operations.{ascending}
use Rattle.table_ingest.specs.Records.{HasNoHeader}
use Rattle.table_ingest.specs.Faults.{Fault, ◌>>=◌}
use Rattle.table_ingest.specs.Tables.{at_record, meanings, table_of}
use Rattle.table_ingest.specs.Supervoxels.{is_id_header, supervoxel_of, ids_of}
use Rattle.table_ingest.specs.Edges.{is_edge_header, edge_of, edges_of}
use Rattle.table_ingest.specs.Bases.{base_of}
use Rattle.table_ingest.specs.Firsts.{LacksHeader, StopsAt, InSupervoxels, InEdges}
use Rattle.table_ingest.specs.declared.errors.Table.{Table}
use Rattle.table_ingest.specs.declared.errors.Table.TheVariants as tables
use Rattle.table_ingest.specs.declared.errors.Cause.{Cause}
use Rattle.table_ingest.specs.declared.errors.Cause.TheVariants as cause

abbrev Rows : Type 0
Rows = List (List (List ℕ))

abbrev bad : Table → ℕ → Cause → Fault
bad t n c = record { table = t; row = n; cause = c }

module _ {A : Type 0} (t : Table) (read : List A → List (List ℕ) → Result A Cause) where
  record Stops (rows : Rows) (before : List A) (n : ℕ) (f : Fault) : Type 0 where
    front : Rows
    fields : List (List ℕ)
    back : Rows
    items : List A
    split : rows ≡ front ++ fields ∷ back
    number : f.row ≡ length front + n
    named : f.table ≡ t
    before_it : meanings t read before n front ≡ Ok items
    means_nothing : read items fields ≡ Err f.cause

  stops : (rows : Rows) (before : List A) (n : ℕ) (f : Fault) → meanings t read before n rows ≡ Err f → Stops rows before n f
  unfolding meanings
  stops [] before n f e = cc e
  stops (fields ∷ rows) before n f e = go (read before fields) refl e (λ x. stops rows (before ++ x ∷ []) (n + 1) f)
    where
      go : (m : Result A Cause) → read before fields ≡ m → at_record t n m (λ x. meanings t read (before ++ x ∷ []) (n + 1) rows) ≡ Err f
          → ((x : A) → meanings t read (before ++ x ∷ []) (n + 1) rows ≡ Err f → Stops rows (before ++ x ∷ []) (n + 1) f) → Stops (fields ∷ rows) before n f
      go (Ok x) is h rest =
          let s = rest x h in
          record {
            front = fields ∷ s.front;
            fields = s.fields;
            back = s.back;
            items = s.items;
            split = ap (λ rs. fields ∷ rs) s.split;
            number = omega (arith, s.number);
            named = s.named;
            before_it = ap (λ m. at_record t n m (λ y. meanings t read (before ++ y ∷ []) (n + 1) s.front)) is ∙ s.before_it;
            means_nothing = s.means_nothing;
          }
      go (Err c) is h rest =
          let same : bad t n c ≡ f = cc h in
          record {
            front = [];
            fields = fields;
            back = rows;
            items = before;
            split = refl;
            number = ap (λ (g : Fault). g.row) (sym same) ∙ omega arith;
            named = ap (λ (g : Fault). g.table) (sym same);
            before_it = refl;
            means_nothing = is ∙ ap (λ (g : Fault). Err g.cause) same;
          }

  module _ (is_header : List (List ℕ) → Bool) where
    abbrev First : Rows → Fault → Type 0
    First rows f = (f.table ≡ t) × (LacksHeader is_header rows f.row f.cause ⊎ StopsAt t is_header read rows f.row f.cause)

    headless : (rows : Rows) (f : Fault) → HasNoHeader is_header rows → bad t 0 cause.BadHeader ≡ f → First rows f
    headless rows f h same = (ap (λ (g : Fault). g.table) (sym same), inl (h, ap (λ (g : Fault). g.row) (sym same), ap (λ (g : Fault). g.cause) (sym same)))

    pub first_fault : (rows : Rows) (f : Fault) → table_of t is_header read rows ≡ Err f → First rows f
    unfolding table_of
    first_fault [] f e = let same : bad t 0 cause.BadHeader ≡ f = cc e in headless [] f tt same
    first_fault (header ∷ rows) f e = go (is_header header) refl e
      where
        go : (b : Bool) → is_header header ≡ b → cond b (meanings t read [] 1 rows) (Err (bad t 0 cause.BadHeader)) ≡ Err f → First (header ∷ rows) f
        go true is h =
            let s = stops rows [] 1 f h in
            (s.named, inr (header, s.front, s.fields, s.back, s.items, ap (λ rs. header ∷ rs) s.split, is, s.number, s.before_it, s.means_nothing))
        go false is h = let same : bad t 0 cause.BadHeader ≡ f = cc h in headless (header ∷ rows) f is same

ids_first : (d : Dataset) (rows : Rows) (f : Fault) → ids_of d rows ≡ Err f → InSupervoxels d rows f
unfolding ids_of
ids_first d rows f e = first_fault tables.Supervoxels (supervoxel_of d) is_id_header rows f e

edges_first : (ids : List ℕ) (rows : Rows) (f : Fault) → edges_of ids rows ≡ Err f
    → (f.table ≡ tables.Edges) × (LacksHeader is_edge_header rows f.row f.cause ⊎ StopsAt tables.Edges is_edge_header (edge_of ids) rows f.row f.cause)
unfolding edges_of
edges_first ids rows f e = first_fault tables.Edges (edge_of ids) is_edge_header rows f e

abbrev made : List ℕ → List Edge → Result Base Fault
made ids es = Ok (record { supervoxels = ascending ids; edges = put_edges es [] })

pub faults_first : (d : Dataset) (rows others : Rows) (f : Fault) → base_of d rows others ≡ Err f → InSupervoxels d rows f ⊎ InEdges d rows others f
unfolding base_of
faults_first d rows others f e = go (ids_of d rows) refl e
  where
    after : (ids : List ℕ) (m : Result (List Edge) Fault) → edges_of ids others ≡ m → ids_of d rows ≡ Ok ids → (m >>= made ids) ≡ Err f → InEdges d rows others f
    after ids (Ok es) is known h = cc h
    after ids (Err g) is known h =
        let same : g ≡ f = cc h in
        let p = edges_first ids others f (is ∙ ap Err same) in
        (ids, known, p.0, p.1)

    go : (m : Result (List ℕ) Fault) → ids_of d rows ≡ m → (m >>= (λ ids. edges_of ids others >>= made ids)) ≡ Err f → InSupervoxels d rows f ⊎ InEdges d rows others f
    go (Ok ids) is h = inr (after ids (edges_of ids others) refl is h)
    go (Err g) is h = let same : g ≡ f = cc h in inl (ids_first d rows f (is ∙ ap Err same))
