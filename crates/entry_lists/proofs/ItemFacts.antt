-- The ids of a request are its marks.
use Rattle.std.proofs.Common.{◌≡◌, ℕ, zero, suc, ◌+◌, ◌<◌, List, [], ◌∷◌, ◌++◌, length, map, take, get_or, Some, refl, sym, ◌∙◌, ap, subst, append-nil}
use Rattle.std.specs.List.{flat_map, slice_get}
use Rattle.std.proofs.lemmas.Grind.{flat_map-append}
use Rattle.std.proofs.lemmas.List.{take_more}
use Rattle.op_model.specs.declared.request.AskedPair.{AskedPair}
use Rattle.op_model.specs.declared.request.Edit.{Edit}
use Rattle.op_model.specs.declared.request.Edit.TheVariants.{Merge, Split, Undo, Redo}
use Rattle.op_model.specs.declared.entry.Asked.TheVariants as asked
use Rattle.record_rows.specs.Rows.{Item}
use Rattle.record_rows.specs.LogRows.{ends_from, marks, marks_from}
use Rattle.entry_rows.specs.declared.items.EntryItem.{EntryItem}
use Rattle.entry_rows.specs.States.{AreItems}
use Rattle.entry_lists.specs.Items.{pair_items, side_item}

none : (n : ℕ) → AreItems n [] []
none n = record { count = refl; each = λ i x y h g. absurd (nothing i x h) }
  where
    nothing : (i : ℕ) (x : EntryItem) → slice_get [] i ≡ Some x → ⊥
    nothing i x h = cc

one : (n : ℕ) (x : EntryItem) (y : Item) (xs : List EntryItem) (ys : List Item) → y.side ≡ x.side → y.id ≡ x.id → y.entry ≡ n → AreItems n xs ys → AreItems n (x ∷ xs) (y ∷ ys)
one n x y xs ys s v e a = record { count = ap suc a.count; each = go }
  where
    go : (i : ℕ) (u : EntryItem) (w : Item) → slice_get (x ∷ xs) i ≡ Some u → slice_get (y ∷ ys) i ≡ Some w → (w.side ≡ u.side) × (w.id ≡ u.id) × (w.entry ≡ n)
    go zero u w h g =
        let p : x ≡ u = cc in
        let q : y ≡ w = cc in
        (sym (ap (λ (z : Item). z.side) q) ∙ (s ∙ ap (λ (z : EntryItem). z.side) p), sym (ap (λ (z : Item). z.id) q) ∙ (v ∙ ap (λ (z : EntryItem). z.id) p), sym (ap (λ (z : Item). z.entry) q) ∙ e)
    go (suc i) u w h g = a.each i u w h g

ends_are : (n place : ℕ) (ps : List AskedPair) → AreItems n (flat_map pair_items ps) (ends_from n place ps)
unfolding pair_items ends_from
ends_are n place [] = none n
ends_are n place (p ∷ ps) = one n _ _ _ _ refl refl refl (one n _ _ _ _ refl refl refl (ends_are n (place + 2) ps))

pub merge_are : (n : ℕ) (ps : List AskedPair) → AreItems n (flat_map pair_items ps) (marks n (asked.Edit (Merge ps)))
unfolding marks
merge_are n ps = ends_are n 0 ps

side_are : (n place side : ℕ) (vs : List ℕ) (xs : List EntryItem) (ys : List Item) → AreItems n xs ys → AreItems n (map (side_item side) vs ++ xs) (marks_from n place side vs ++ ys)
unfolding marks_from
side_are n place side [] xs ys a = a
side_are n place side (v ∷ vs) xs ys a = one n _ _ _ _ refl refl refl (side_are n (place + 1) side vs xs ys a)

pub split_are : (n : ℕ) (us vs : List ℕ) → AreItems n (map (side_item 1) us ++ map (side_item 2) vs) (marks n (asked.Edit (Split us vs)))
unfolding marks
split_are n us vs =
    side_are n 0 1 us (map (side_item 2) vs) (marks_from n (length us) 2 vs)
    (subst (λ xs. AreItems n xs (marks_from n (length us) 2 vs)) (append-nil (map (side_item 2) vs)) (subst (λ ys. AreItems n (map (side_item 2) vs ++ []) ys) (append-nil (marks_from n (length us) 2 vs)) (side_are n (length us) 2 vs [] [] (none n))))

pub pairs_next : (ps : List AskedPair) (k : ℕ) (p : AskedPair) (xs after : List EntryItem) → k < length ps → p ≡ get_or ps k p → xs ≡ flat_map pair_items (take k ps) → after ≡ xs ++ pair_items p → after ≡ flat_map pair_items (take (k + 1) ps)
unfolding pair_items
pairs_next ps k p xs after l q h e =
    e ∙ (ap (λ ys. ys ++ (record { id = p.a; side = 1 } ∷ record { id = p.b; side = 2 } ∷ [])) h ∙ (sym (flat_map-append pair_items (take k ps) (p ∷ [])) ∙ ap (flat_map pair_items) (ap (λ y. take k ps ++ y ∷ []) q ∙ sym (take_more ps k p l))))

none_are : (n : ℕ) (xs : List EntryItem) → xs ≡ [] → AreItems n xs []
none_are n xs p = subst (λ ys. AreItems n ys []) (sym p) (none n)

-- an undo and a redo have none
pub undo_are : (n op : ℕ) (xs : List EntryItem) (edit : Edit) → edit ≡ Undo op → xs ≡ [] → AreItems n xs (marks n (asked.Edit edit))
unfolding marks
undo_are n op xs edit e p = subst (λ f. AreItems n xs (marks n (asked.Edit f))) (sym e) (none_are n xs p)

pub redo_are : (n op : ℕ) (xs : List EntryItem) (edit : Edit) → edit ≡ Redo op → xs ≡ [] → AreItems n xs (marks n (asked.Edit edit))
unfolding marks
redo_are n op xs edit e p = subst (λ f. AreItems n xs (marks n (asked.Edit f))) (sym e) (none_are n xs p)
