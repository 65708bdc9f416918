-- Pairs in a set of their ends, and in a list of edges.
use Rattle.std.proofs.Common.{◌≡◌, ℕ, Bool, true, false, not, cond, ◌||◌, List, [], ◌∷◌, ◌++◌, map, Option, Some, None, Ok, Err, refl, sym, ap, ◌∙◌}
use Rattle.op_model.specs.declared.base.Pair.{Pair}
use Rattle.op_model.specs.declared.base.Weight.{Weight}
use Rattle.op_model.specs.declared.base.Edge.{Edge}
use Rattle.op_model.specs.Edges.{same_pair}
use Rattle.table_ingest.specs.Faults.{◌>>=◌, or_cause, only_if}
use Rattle.table_ingest.specs.Records.{field}
use Rattle.table_ingest.specs.Edges.{edge_of, edge_with, pair_in, has_pair, ends, has_ends, weight_of, state_of, may_be}
use Rattle.table_ingest.specs.declared.errors.Cause.TheVariants as cause
use Rattle.table_ingest.proofs.Names.{added_is, there_is}

-- the ends of edges are there where their pair is
pub ends_there : (es : List Edge) (p : Pair) → has_ends (map ends es) p ≡ has_pair es p
unfolding same_pair
ends_there [] p = refl
ends_there (e ∷ es) p = ap (λ b. same_pair e.pair p || b) (ends_there es p)

map_last : (es : List Edge) (e : Edge) → map ends (es ++ e ∷ []) ≡ map ends es ++ ends e ∷ []
map_last [] e = refl
map_last (f ∷ es) e = ap (λ ks. ends f ∷ ks) (map_last es e)

-- an edge has the pair that it was made of
edge_pair : (fields : List (List ℕ)) (p : Pair) (e : Edge) → Ok e ≡ edge_with fields p → e.pair ≡ p
unfolding edge_with
edge_pair fields p e is = go (weight_of (field fields 2)) (state_of (field fields 3)) is
  where
    made : Weight → Bool → Edge
    made w a = record { pair = p; weight = w; active = a }

    test : (w : Weight) (a b : Bool) → Ok e ≡ cond b (Ok (made w a)) (Err cause.GlueInactive) → e.pair ≡ p
    test w a false h = cc h
    test w a true h = let same : e ≡ made w a = cc h in ap (λ (x : Edge). x.pair) same

    go : (w : Option Weight) (s : Option Bool) → Ok e ≡ (or_cause cause.BadAffinity w >>= (λ weight. or_cause cause.BadActive s >>= (λ active. only_if (λ x. may_be x.weight x.active) cause.GlueInactive (record { pair = p; weight = weight; active = active })))) → e.pair ≡ p
    go None s h = cc h
    go (Some w) None h = cc h
    go (Some w) (Some a) h = test w a (may_be w a) h

-- the ends of an edge that goes last go last
pub put_map : (es after : List Edge) (keys new : List (ℕ × ℕ)) (fields : List (List ℕ)) (p : Pair) (e : Edge) → keys ≡ map ends es → Ok e ≡ edge_with fields p → after ≡ es ++ e ∷ [] → new ≡ keys ++ (p.a, p.b) ∷ [] → new ≡ map ends after
put_map es after keys new fields p e same made is last =
    last ∙ ap (λ ks. ks ++ (p.a, p.b) ∷ []) same ∙ ap (λ (q : Pair). map ends es ++ (q.a, q.b) ∷ []) (sym (edge_pair fields p e made)) ∙ sym (ap (map ends) is ∙ map_last es e)

edge_is : (known : List ℕ) (before : List Edge) (fields : List (List ℕ)) (p : Pair) (b : Bool) → Ok p ≡ pair_in known fields → has_pair before p ≡ b
    → edge_of known before fields ≡ cond (not b) (edge_with fields p) (Err cause.DoubleEdge)
unfolding edge_of
edge_is known before fields p b is seen =
    ap (λ m. m >>= only_if (λ q. not (has_pair before q)) cause.DoubleEdge >>= edge_with fields) (sym is)
    ∙ ap (λ (x : Bool). cond (not x) (Ok p) (Err cause.DoubleEdge) >>= edge_with fields) seen ∙ go b
  where
    go : (x : Bool) → (cond (not x) (Ok p) (Err cause.DoubleEdge) >>= edge_with fields) ≡ cond (not x) (edge_with fields p) (Err cause.DoubleEdge)
    go true = refl
    go false = refl

module _ (known : List ℕ) (before : List Edge) (keys : List (ℕ × ℕ)) (fields : List (List ℕ)) (p : Pair) (added : Bool) (same : keys ≡ map ends before) (is : Ok p ≡ pair_in known fields) (new : added ≡ not (has_ends keys p)) where
  pair_seen : has_pair before p ≡ has_ends keys p
  pair_seen = sym (ap (λ ks. has_ends ks p) same ∙ ends_there before p)

  -- a pair that isn't there yet makes its edge
  pub new_edge : added ≡ true → edge_of known before fields ≡ edge_with fields p
  new_edge there = edge_is known before fields p false is (pair_seen ∙ added_is _ added new there)

  -- one that is there has its cause
  pub double_edge : added ≡ false → edge_of known before fields ≡ Err cause.DoubleEdge
  double_edge there = edge_is known before fields p true is (pair_seen ∙ there_is _ added new there)
