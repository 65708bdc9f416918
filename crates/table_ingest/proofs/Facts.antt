-- What holds of a record that means something, and so of all that a table means.
use Rattle.std.proofs.Common.{◌≡◌, ℕ, ◌+◌, ◌^◌, ◌<◌, ◌≤◌, Bool, true, false, cond, not, ◌&&◌, eqb, ltb, leb, bytes_eq, codes, List, [], ◌∷◌, ◌++◌, length, Option, Some, None, Result, Ok, Err, IsTrue, refl, sym, ◌∙◌, ap, subst, arith}
use Rattle.std.specs.Option.{option_and_then}
use Rattle.std.specs.List.{AllByRecursion, IsDistinct, list_any}
use Rattle.std.proofs.lemmas.Bool.{eqb-true, ltb-true, leb-true, and_parts, or_parts}
use Rattle.node_ids.specs.Digits.{number_of}
use Rattle.node_ids.specs.Ids.{parts_of}
use Rattle.chunk_geometry.specs.Grids.{in_grid}
use Rattle.op_model.specs.Lists.{has}
use Rattle.op_model.specs.declared.base.Dataset.{Dataset}
use Rattle.op_model.specs.declared.base.Pair.{Pair}
use Rattle.op_model.specs.declared.base.Weight.{Weight}
use Rattle.op_model.specs.declared.base.Weight.TheVariants.{Affinity, Glue}
use Rattle.op_model.specs.declared.base.Edge.{Edge}
use Rattle.op_model.specs.Edges.{pair_of, same_pair}
use Rattle.op_model.specs.Valid.{IsSupervoxel, IsEdge, IsWeight}
use Rattle.table_ingest.specs.Records.{field}
use Rattle.table_ingest.specs.Faults.{◌>>=◌, or_cause, only_if}
use Rattle.table_ingest.specs.Tables.{at_record, meanings, table_of}
use Rattle.table_ingest.specs.Supervoxels.{id_of, placed, placed_id, supervoxel_of, ids_of, is_id_header}
use Rattle.table_ingest.specs.Edges.{pair_in, has_pair, same_ends, may_be, weight_of, state_of, edge_with, edge_of, edges_of, is_edge_header}
use Rattle.table_ingest.specs.declared.errors.Table.{Table}
use Rattle.table_ingest.specs.declared.errors.Table.TheVariants as tables
use Rattle.table_ingest.specs.declared.errors.Cause.{Cause}
use Rattle.table_ingest.specs.declared.errors.Cause.TheVariants as cause

bound : {A B : Type 0} (m : Result A Cause) (f : A → Result B Cause) (y : B) → (m >>= f) ≡ Ok y → (x : A) × (m ≡ Ok x) × (f x ≡ Ok y)
bound (Ok x) f y e = (x, refl, e)
bound (Err c) f y e = cc e

passed : {A : Type 0} (test : A → Bool) (c : Cause) (x y : A) → only_if test c x ≡ Ok y → (test x ≡ true) × (x ≡ y)
passed test c x y e = go (test x) refl e
  where
    go : (b : Bool) → test x ≡ b → cond b (Ok x) (Err c) ≡ Ok y → (test x ≡ true) × (x ≡ y)
    go true t f = (t, cc f)
    go false t f = cc f

given : {A : Type 0} (c : Cause) (o : Option A) (y : A) → or_cause c o ≡ Ok y → o ≡ Some y
given c (Some x) y e = let same : x ≡ y = cc e in ap Some same
given c None y e = cc e

not_true : (b : Bool) → not b ≡ true → b ≡ false
not_true true e = cc e
not_true false e = refl

any_none : {X : Type 0} (test : X → Bool) (xs : List X) → list_any test xs ≡ false → AllByRecursion (λ x. test x ≡ false) xs
any_none test [] e = tt
any_none test (x ∷ xs) e = let p = or_parts (test x) (list_any test xs) e in (p.0, any_none test xs p.1)

all_last : {X : Type 0} (P : X → Type 0) (xs : List X) (x : X) → AllByRecursion P xs → P x → AllByRecursion P (xs ++ x ∷ [])
all_last P [] x a p = (p, tt)
all_last P (y ∷ ys) x a p = (a.0, all_last P ys x a.1 p)

distinct_last : {X : Type 0} (same : X → X → Bool) (xs : List X) (x : X) → IsDistinct same xs → AllByRecursion (λ y. same y x ≡ false) xs → IsDistinct same (xs ++ x ∷ [])
unfolding IsDistinct
distinct_last same [] x d n = (tt, tt)
distinct_last same (y ∷ ys) x d n = (all_last (λ z. same y z ≡ false) ys x d.0 n.0, distinct_last same ys x d.1 n.1)

-- what holds of no items and is kept by each record holds of all
module _ {A : Type 0} (t : Table) (read : List A → List (List ℕ) → Result A Cause) (Good : List A → Type 0)
    (kept : (before : List A) (fields : List (List ℕ)) (x : A) → Good before → read before fields ≡ Ok x → Good (before ++ x ∷ [])) where
  all_good : (rows : List (List (List ℕ))) (before items : List A) (n : ℕ) → Good before → meanings t read before n rows ≡ Ok items → Good items
  unfolding meanings
  all_good [] before items n g e = let same : before ≡ items = cc e in subst Good same g
  all_good (fields ∷ rows) before items n g e = go (read before fields) refl e (λ x h. all_good rows (before ++ x ∷ []) items (n + 1) (kept before fields x g h))
    where
      go : (m : Result A Cause) → read before fields ≡ m → at_record t n m (λ x. meanings t read (before ++ x ∷ []) (n + 1) rows) ≡ Ok items
          → ((x : A) → read before fields ≡ Ok x → meanings t read (before ++ x ∷ []) (n + 1) rows ≡ Ok items → Good items) → Good items
      go (Ok x) is f rest = rest x is f
      go (Err c) is f rest = cc f

  table_good : (is_header : List (List ℕ) → Bool) (rows : List (List (List ℕ))) (items : List A) → Good [] → table_of t is_header read rows ≡ Ok items → Good items
  unfolding table_of
  table_good is_header [] items g e = cc e
  table_good is_header (header ∷ rows) items g e = go (is_header header) e
    where
      go : (b : Bool) → cond b (meanings t read [] 1 rows) (Err (record { table = t; row = 0; cause = cause.BadHeader })) ≡ Ok items → Good items
      go true f = all_good rows [] items 1 g f
      go false f = cc f

-- a supervoxel of the dataset
placed_good : (d : Dataset) (id v : ℕ) → placed d id ≡ Ok v → IsSupervoxel d v
unfolding placed
placed_good d id v e =
    let p = parts_of d.layout id in
    let c = bound (only_if (λ w. eqb p.layer 1) cause.WrongLayer id >>= only_if (λ w. in_grid d.grid (record { x = p.x; y = p.y; z = p.z })) cause.OutsideGrid) (only_if (λ w. not (eqb p.segment 0)) cause.ZeroSegment) v e in
    let b = bound (only_if (λ w. eqb p.layer 1) cause.WrongLayer id) (only_if (λ w. in_grid d.grid (record { x = p.x; y = p.y; z = p.z })) cause.OutsideGrid) c.0 c.1 in
    let three = passed (λ w. not (eqb p.segment 0)) cause.ZeroSegment c.0 v c.2 in
    let two = passed (λ w. in_grid d.grid (record { x = p.x; y = p.y; z = p.z })) cause.OutsideGrid b.0 c.0 b.2 in
    let one = passed (λ w. eqb p.layer 1) cause.WrongLayer id b.0 b.1 in
    let same : id ≡ v = one.1 ∙ two.1 ∙ three.1 in
    let z = and_parts (ltb p.x d.grid.x && ltb p.y d.grid.y) (ltb p.z d.grid.z) two.0 in
    let xy = and_parts (ltb p.x d.grid.x) (ltb p.y d.grid.y) z.0 in
    let some : 1 ≤ p.segment = segment p.segment (not_true _ three.0) in
    let good : IsSupervoxel d id = (eqb-true _ _ one.0, ltb-true _ _ xy.0, ltb-true _ _ xy.1, ltb-true _ _ z.1, some) in
    subst (IsSupervoxel d) same good
  where
    segment : (n : ℕ) → eqb n 0 ≡ false → 1 ≤ n
    segment n h = grind (arith, h)

-- the ids so far
abbrev pub GoodIds : Dataset → List ℕ → Type 0
GoodIds d ids = IsDistinct eqb ids × AllByRecursion (IsSupervoxel d) ids

supervoxel_kept : (d : Dataset) (before : List ℕ) (fields : List (List ℕ)) (v : ℕ) → GoodIds d before → supervoxel_of d before fields ≡ Ok v → GoodIds d (before ++ v ∷ [])
unfolding supervoxel_of
supervoxel_kept d before fields v g e =
    let b = bound (placed_id d fields) (only_if (λ w. not (has before w)) cause.DoubleSupervoxel) v e in
    let p = passed (λ w. not (has before w)) cause.DoubleSupervoxel b.0 v b.2 in
    let c = bound (id_of fields) (placed d) b.0 b.1 in
    let good = subst (IsSupervoxel d) p.1 (placed_good d c.0 b.0 c.2) in
    let new = subst (λ w. has before w ≡ false) p.1 (not_true _ p.0) in
    (distinct_last eqb before v g.0 (any_none (λ y. eqb y v) before new), all_last (IsSupervoxel d) before v g.1 good)

pub ids_good : (d : Dataset) (rows : List (List (List ℕ))) (ids : List ℕ) → ids_of d rows ≡ Ok ids → GoodIds d ids
unfolding ids_of IsDistinct
ids_good d rows ids e = table_good tables.Supervoxels (supervoxel_of d) (GoodIds d) (supervoxel_kept d) is_id_header rows ids (tt, tt) e

-- the ends of a pair
pair_ordered : (u v : ℕ) → eqb (pair_of u v).a (pair_of u v).b ≡ false → (pair_of u v).a < (pair_of u v).b
unfolding pair_of
pair_ordered u v n = go (ltb u v) refl n
  where
    made : Bool → Pair
    made b = cond b (record { a = u; b = v }) (record { a = v; b = u })

    go : (b : Bool) → ltb u v ≡ b → eqb (made b).a (made b).b ≡ false → (made b).a < (made b).b
    go true e f = ltb-true u v e
    go false e f = grind (arith, e, f)

abbrev GoodPair : List ℕ → Pair → Type 0
GoodPair known p = (p.a < p.b) × IsTrue (has known p.a) × IsTrue (has known p.b)

pair_good : (known : List ℕ) (fields : List (List ℕ)) (p : Pair) → pair_in known fields ≡ Ok p → GoodPair known p
unfolding pair_in
pair_good known fields p e =
    let a = bound (only_if (λ fs. eqb (length fs) 4) cause.FieldCount fields) _ p e in
    let b = bound (or_cause cause.BadId (number_of (field a.0 0))) _ p a.2 in
    let c = bound (or_cause cause.BadId (number_of (field a.0 1))) _ p b.2 in
    let d = bound (only_if (λ (q : Pair). has known q.a && has known q.b) cause.UnknownEnd (pair_of b.0 c.0)) (only_if (λ (q : Pair). not (eqb q.a q.b)) cause.SelfEdge) p c.2 in
    let there = passed (λ (q : Pair). has known q.a && has known q.b) cause.UnknownEnd (pair_of b.0 c.0) d.0 d.1 in
    let differ = passed (λ (q : Pair). not (eqb q.a q.b)) cause.SelfEdge d.0 p d.2 in
    let both = and_parts (has known (pair_of b.0 c.0).a) (has known (pair_of b.0 c.0).b) there.0 in
    let apart : eqb (pair_of b.0 c.0).a (pair_of b.0 c.0).b ≡ false = subst (λ (q : Pair). eqb q.a q.b ≡ false) (sym there.1) (not_true _ differ.0) in
    let good : GoodPair known (pair_of b.0 c.0) = (pair_ordered b.0 c.0 apart, both.0, both.1) in
    subst (GoodPair known) (there.1 ∙ differ.1) good

affinity_good : (o : Option ℕ) (w : Weight) (active : Bool) → option_and_then (λ n. cond (leb 1 n && ltb n (2 ^ 32)) (Some (Affinity n)) None) o ≡ Some w → may_be w active ≡ true → IsWeight w active
affinity_good None w active e m = cc e
affinity_good (Some n) w active e m = go (leb 1 n && ltb n (2 ^ 32)) refl e
  where
    go : (b : Bool) → (leb 1 n && ltb n (2 ^ 32)) ≡ b → cond b (Some (Affinity n)) None ≡ Some w → IsWeight w active
    go true t f =
        let p = and_parts (leb 1 n) (ltb n (2 ^ 32)) t in
        let same : Affinity n ≡ w = cc f in
        subst (λ x. IsWeight x active) same (leb-true _ _ p.0, ltb-true _ _ p.1)
    go false t f = cc f

weight_good : (text : List ℕ) (w : Weight) (active : Bool) → weight_of text ≡ Some w → may_be w active ≡ true → IsWeight w active
unfolding weight_of
weight_good text w active e m = go (bytes_eq text (codes "glue")) e
  where
    glued : (x : Weight) → Glue ≡ x → may_be x active ≡ true → IsWeight x active
    glued x same h = subst (λ y. may_be y active ≡ true → IsWeight y active) same (λ k. k) h

    go : (b : Bool) → cond b (Some Glue) (option_and_then (λ n. cond (leb 1 n && ltb n (2 ^ 32)) (Some (Affinity n)) None) (number_of text)) ≡ Some w → IsWeight w active
    go true f = let same : Glue ≡ w = cc f in glued w same m
    go false f = affinity_good (number_of text) w active f m

abbrev MadeOf : Pair → Edge → Type 0
MadeOf p e = (e.pair ≡ p) × IsWeight e.weight e.active

edge_good : (fields : List (List ℕ)) (p : Pair) (e : Edge) → edge_with fields p ≡ Ok e → MadeOf p e
unfolding edge_with
edge_good fields p e h =
    let a = bound (or_cause cause.BadAffinity (weight_of (field fields 2))) _ e h in
    let b = bound (or_cause cause.BadActive (state_of (field fields 3))) _ e a.2 in
    let made : Edge = record { pair = p; weight = a.0; active = b.0 } in
    let c = passed (λ (x : Edge). may_be x.weight x.active) cause.GlueInactive made e b.2 in
    let w = weight_good (field fields 2) a.0 b.0 (given cause.BadAffinity _ a.0 a.1) c.0 in
    let good : MadeOf p made = (refl, w) in
    subst (MadeOf p) c.1 good

-- the edges so far
abbrev pub GoodEdges : List ℕ → List Edge → Type 0
GoodEdges known edges = IsDistinct same_ends edges × AllByRecursion (IsEdge known) edges

edge_kept : (known : List ℕ) (before : List Edge) (fields : List (List ℕ)) (e : Edge) → GoodEdges known before → edge_of known before fields ≡ Ok e → GoodEdges known (before ++ e ∷ [])
unfolding edge_of
edge_kept known before fields e g h =
    let b = bound (pair_in known fields >>= only_if (λ q. not (has_pair before q)) cause.DoubleEdge) (edge_with fields) e h in
    let a = bound (pair_in known fields) (only_if (λ q. not (has_pair before q)) cause.DoubleEdge) b.0 b.1 in
    let p = passed (λ q. not (has_pair before q)) cause.DoubleEdge a.0 b.0 a.2 in
    let made = edge_good fields b.0 e b.2 in
    let ends : GoodPair known e.pair = subst (GoodPair known) (p.1 ∙ sym made.0) (pair_good known fields a.0 a.1) in
    let new : has_pair before e.pair ≡ false = subst (λ q. has_pair before q ≡ false) (p.1 ∙ sym made.0) (not_true _ p.0) in
    let good : IsEdge known e = (ends.0, ends.1, ends.2, made.1) in
    (distinct_last same_ends before e g.0 (any_none (λ f. same_pair f.pair e.pair) before new), all_last (IsEdge known) before e g.1 good)

pub edges_good : (known : List ℕ) (rows : List (List (List ℕ))) (edges : List Edge) → edges_of known rows ≡ Ok edges → GoodEdges known edges
unfolding edges_of IsDistinct
edges_good known rows edges e = table_good tables.Edges (edge_of known) (GoodEdges known) (edge_kept known) is_edge_header rows edges (tt, tt) e
