-- Lists that a loop over another list makes item by item.
use Rattle.std.proofs.Common.{◌≡◌, ℕ, ◌+◌, ◌<◌, List, [], ◌∷◌, ◌++◌, length, map, take, get_or, sym, ◌∙◌, ap, subst, add-one}
use mathlib.Core.Path.{ap₂}
use Rattle.std.specs.List.{All, AllByRecursion}
use Rattle.std.proofs.Math.Seq.{take-suc}
use Rattle.std.proofs.lemmas.List.{map-append}
use Rattle.std.proofs.lemmas.List.Elements.{All-push, All-from_recursion}
use Rattle.op_model.specs.declared.base.Edge.{Edge}
use Rattle.op_model.specs.Valid.{IsEdge}
use Rattle.base_rows.specs.declared.lists.BaseEdge.{BaseEdge}
use Rattle.base_rows.specs.Lists.{IsPlaced}

-- the values of one item more
pub map_pushed : {X Y : Type 0} (f : X → Y) (xs : List X) (i : ℕ) (x : X) (y : Y) (ys zs : List Y)
    → i < length xs → x ≡ get_or xs i x → y ≡ f x → ys ≡ map f (take i xs) → zs ≡ ys ++ y ∷ [] → zs ≡ map f (take (i + 1) xs)
map_pushed f xs i x y ys zs l is e h p =
    p ∙ (ap₂ (λ us u. us ++ u ∷ []) h (e ∙ ap f is)
    ∙ (sym (map-append f (take i xs) (get_or xs i x ∷ [])) ∙ ap (map f) (sym (rw add-one (take-suc xs i x l)))))

-- an edge of the base stands between two of its supervoxels
pub edge_in : (ids : List ℕ) (es es2 : List Edge) (i : ℕ) (e : Edge) → es2 ≡ es → i < length es2 → e ≡ get_or es2 i e → AllByRecursion (IsEdge ids) es → IsEdge ids e
edge_in ids es es2 i e same l is a =
    subst (IsEdge ids) (sym is) (All-from_recursion (IsEdge ids) es2 (subst (AllByRecursion (IsEdge ids)) (sym same) a) i e l)

-- the places of the ends of one edge more
pub places_pushed : (ids : List ℕ) (es es2 : List Edge) (i : ℕ) (e : Edge) (x : BaseEdge) (xs ys : List BaseEdge)
    → es2 ≡ es → i < length es2 → e ≡ get_or es2 i e → x.edge ≡ e → IsPlaced ids x → ys ≡ xs ++ x ∷ []
    → (map (λ (x : BaseEdge). x.edge) xs ≡ take i es) × All (IsPlaced ids) xs → (map (λ (x : BaseEdge). x.edge) ys ≡ take (i + 1) es) × All (IsPlaced ids) ys
places_pushed ids es es2 i e x xs ys same l is edge placed p h = (
  ap (map (λ (x : BaseEdge). x.edge)) p
      ∙ (map-append (λ (x : BaseEdge). x.edge) xs (x ∷ [])
      ∙ (ap₂ (λ us u. us ++ u ∷ []) (h.0 ∙ ap (take i) (sym same)) (edge ∙ is)
      ∙ (sym (rw add-one (take-suc es2 i e l)) ∙ ap (take (i + 1)) same))),
  subst (All (IsPlaced ids)) (sym p) (All-push (IsPlaced ids) xs x h.1 placed),
)
