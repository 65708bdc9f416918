-- What two tables spell is a base, and each two texts spell one thing.
use Rattle.std.proofs.Common.{◌≡◌, ℕ, true, false, eqb, ltb, List, [], ◌∷◌, Result, Ok, Err, ◌⊎◌, inl, inr, refl, sym, ◌∙◌, ap, subst, arith}
use Rattle.std.specs.List.{AllByRecursion, list_any}
use Rattle.std.proofs.lemmas.Bool.{ltb-true, or_from}
use Rattle.op_model.specs.declared.base.Dataset.{Dataset}
use Rattle.op_model.specs.declared.base.Base.{Base}
use Rattle.op_model.specs.declared.base.Pair.{Pair}
use Rattle.op_model.specs.declared.base.Edge.{Edge}
use Rattle.op_model.specs.Edges.{same_pair, pair_before, put_edges}
use Rattle.op_model.specs.Operations.{ascending}
use Rattle.op_model.specs.Valid.{IsBase, IsSupervoxel, IsEdge, IsAscending, PairsDiffer}
use Rattle.op_model.proofs.LegalLemmas.{ascending_has}
use Rattle.table_ingest.specs.Records.{Are}
use Rattle.table_ingest.specs.Faults.{Fault, ◌>>=◌}
use Rattle.table_ingest.specs.Supervoxels.{ids_of}
use Rattle.table_ingest.specs.Edges.{edges_of, same_ends}
use Rattle.table_ingest.specs.Bases.{base_of, Spells, Faulty, AscendByPair}
use Rattle.table_ingest.specs.declared.errors.Table.{Table}
use Rattle.table_ingest.specs.declared.errors.Cause.{Cause}
use Rattle.op_model.proofs.Orders.{Ascends, In, all_in, all_more}
use Rattle.op_model.proofs.EdgeOrders.{edges_order, edge_before}
use Rattle.table_ingest.proofs.Places.{ids_order, put_ids, put_rows}
use Rattle.table_ingest.proofs.Facts.{ids_good, edges_good}
use Rattle.table_ingest.proofs.Total.{some_rows, same_rows}

ids_ascend : (xs : List ℕ) → Ascends ltb eqb ids_order xs → IsAscending xs
ids_ascend [] a = tt
ids_ascend (x ∷ []) a = tt
ids_ascend (x ∷ y ∷ ys) a = (ltb-true x y a.0.0, ids_ascend (y ∷ ys) a.1)

edges_ascend : (es : List Edge) → Ascends edge_before same_ends edges_order es → AscendByPair es
edges_ascend [] a = tt
edges_ascend (e ∷ []) a = tt
edges_ascend (e ∷ f ∷ es) a = (a.0.0, edges_ascend (f ∷ es) a.1)

before_differs : (p q : Pair) → pair_before p q ≡ true → same_pair q p ≡ false
unfolding pair_before same_pair
before_differs p q e = grind (arith, e)

none_among : (e : Edge) (es : List Edge) → AllByRecursion (λ f. edge_before e f ≡ true) es → list_any (λ f. same_pair f.pair e.pair) es ≡ false
none_among e [] a = refl
none_among e (f ∷ es) a = or_from _ _ (before_differs e.pair f.pair a.0) (none_among e es a.1)

edges_differ : (es : List Edge) → Ascends edge_before same_ends edges_order es → PairsDiffer es
edges_differ [] a = tt
edges_differ (e ∷ es) a = (none_among e es a.0, edges_differ es a.1)

pub bound : {A B : Type 0} (m : Result A Fault) (f : A → Result B Fault) (y : B) → (m >>= f) ≡ Ok y → (x : A) × (m ≡ Ok x) × (f x ≡ Ok y)
bound (Ok x) f y e = (x, refl, e)
bound (Err c) f y e = cc e

abbrev Valid : Dataset → Base → Type 0
Valid d b = IsBase d b × AscendByPair b.edges

edge_ascended : (ids : List ℕ) (e : Edge) → IsEdge ids e → IsEdge (ascending ids) e
edge_ascended ids e g = (g.0, ascending_has ids e.pair.a g.1, ascending_has ids e.pair.b g.2, g.3)

made_valid : (d : Dataset) (rows others : List (List (List ℕ))) (ids : List ℕ) (edges : List Edge) → ids_of d rows ≡ Ok ids → edges_of ids others ≡ Ok edges
    → Valid d (record { supervoxels = ascending ids; edges = put_edges edges [] })
made_valid d rows others ids edges i e =
    let good = ids_good d rows ids i in
    let kept = edges_good ids others edges e in
    let p = put_ids ids good.0 in
    let q = put_rows edges kept.0 in (
      record {
        ascending = ids_ascend (ascending ids) p.ascends;
        supervoxels = all_more (λ z. In z ids) (IsSupervoxel d) (λ z j. all_in (IsSupervoxel d) ids z good.1 j) (ascending ids) p.from;
        edges = all_more (λ z. In z edges) (IsEdge (ascending ids)) (λ z j. edge_ascended ids z (all_in (IsEdge ids) edges z kept.1 j)) (put_edges edges []) q.from;
        once = edges_differ (put_edges edges []) q.ascends;
      },
      edges_ascend (put_edges edges []) q.ascends,
    )

-- a base of two tables is one of the dataset
pub base_valid : (d : Dataset) (rows others : List (List (List ℕ))) (b : Base) → base_of d rows others ≡ Ok b → IsBase d b × AscendByPair b.edges
unfolding base_of
base_valid d rows others b h =
    let i = bound (ids_of d rows) _ b h in
    let e = bound (edges_of i.0 others) _ b i.2 in
    let made : Base = record { supervoxels = ascending i.0; edges = put_edges e.0 [] } in
    let same : made ≡ b = cc e.2 in
    subst (Valid d) same (made_valid d rows others i.0 e.0 i.1 e.1)

pub spelled_valid : (d : Dataset) (supervoxels edges : List ℕ) (b : Base) → Spells d supervoxels edges b → IsBase d b × AscendByPair b.edges
spelled_valid d supervoxels edges b s = base_valid d s.0 s.1 b s.4

abbrev Meant : Dataset → List ℕ → List ℕ → Type 0
Meant d supervoxels edges = ((b : Base) × Spells d supervoxels edges b) ⊎ ((t : Table) × (n : ℕ) × (c : Cause) × Faulty d supervoxels edges t n c)

pub meant : (d : Dataset) (supervoxels edges : List ℕ) → Meant d supervoxels edges
meant d supervoxels edges = go (some_rows supervoxels) (some_rows edges)
  where
    go : ((rows : List (List (List ℕ))) × Are supervoxels rows) → ((rows : List (List (List ℕ))) × Are edges rows) → Meant d supervoxels edges
    go (rows, are) (others, these) = by (base_of d rows others) refl
      where
        by : (r : Result Base Fault) → base_of d rows others ≡ r → Meant d supervoxels edges
        by (Ok b) e = inl (b, (rows, others, are, these, e))
        by (Err f) e = inr (f.table, f.row, f.cause, (rows, others, are, these, e))

-- one result of two texts
one_result : (d : Dataset) (supervoxels edges : List ℕ) (one two one2 two2 : List (List (List ℕ))) → Are supervoxels one → Are supervoxels two → Are edges one2 → Are edges two2 → base_of d one one2 ≡ base_of d two two2
one_result d supervoxels edges one two one2 two2 a b a2 b2 =
    ap (λ rows. base_of d rows one2) (same_rows supervoxels one two a b) ∙ ap (base_of d two) (same_rows edges one2 two2 a2 b2)

pub base_or_fault : (d : Dataset) (supervoxels edges : List ℕ) (b : Base) (t : Table) (n : ℕ) (c : Cause) → Spells d supervoxels edges b → Faulty d supervoxels edges t n c → ⊥
base_or_fault d supervoxels edges b t n c s f =
    let e = sym s.4 ∙ one_result d supervoxels edges s.0 f.0 s.1 f.1 s.2 f.2 s.3 f.3 ∙ f.4 in cc e

pub one_base : (d : Dataset) (supervoxels edges : List ℕ) (one two : Base) → Spells d supervoxels edges one → Spells d supervoxels edges two → one ≡ two
one_base d supervoxels edges one two s f =
    let e = sym s.4 ∙ one_result d supervoxels edges s.0 f.0 s.1 f.1 s.2 f.2 s.3 f.3 ∙ f.4 in cc e

same_fault : (f g : Fault) → f ≡ g → (f.table ≡ g.table) × (f.row ≡ g.row) × (f.cause ≡ g.cause)
same_fault f g e = (ap (λ (x : Fault). x.table) e, ap (λ (x : Fault). x.row) e, ap (λ (x : Fault). x.cause) e)

pub one_fault : (d : Dataset) (supervoxels edges : List ℕ) (t t2 : Table) (n n2 : ℕ) (c c2 : Cause) → Faulty d supervoxels edges t n c → Faulty d supervoxels edges t2 n2 c2 → (t ≡ t2) × (n ≡ n2) × (c ≡ c2)
one_fault d supervoxels edges t t2 n n2 c c2 s f =
    let e = sym s.4 ∙ one_result d supervoxels edges s.0 f.0 s.1 f.1 s.2 f.2 s.3 f.3 ∙ f.4 in
    let one : Fault = record { table = t; row = n; cause = c } in
    let two : Fault = record { table = t2; row = n2; cause = c2 } in
    let same : one ≡ two = cc e in
    same_fault one two same
