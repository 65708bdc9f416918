-- One more item.
use Rattle.std.proofs.Common.{◌≡◌, ℕ, zero, suc, ◌+◌, ◌<◌, List, [], ◌∷◌, ◌++◌, length, length-append, map, take, get_or, Option, Some, None, sym, ◌∙◌, ap, arith, append_assoc}
use Rattle.std.specs.List.{slice_get}
use Rattle.std.specs.Option.{IfSome}
use Rattle.std.proofs.lemmas.Option.{slice_get-get_or}
use Rattle.record_rows.specs.Rows.{Row, ItemRow, Item}
use Rattle.record_rows.proofs.TellLemmas.{length-words_of}
use Rattle.row_append.proofs.EndLaws.{headers_stay}
use Rattle.grown_rows.specs.Growths.{Grown, IsGrowth, IsWithin}
use Rattle.grown_rows.specs.Aimed.{ItemsEnd}
use Rattle.entry_rows.specs.declared.items.EntryItem.{EntryItem}
use Rattle.entry_rows.proofs.EdgeSteps.{words_count}

pub items_take : (ns : List Item) (k : ℕ) (n : Item) → slice_get ns k ≡ Some n → map ItemRow (take (k + 1) ns) ≡ map ItemRow (take k ns) ++ ItemRow n ∷ []
items_take [] k n e = cc
items_take (m ∷ ns) zero n e = let q : m ≡ n = cc in ap (λ x. ItemRow x ∷ []) q
items_take (m ∷ ns) (suc k) n e = let z : suc k + 1 ≡ suc (k + 1) = omega arith in rw z (ap (λ rs. ItemRow m ∷ rs) (items_take ns k n e))

pub got_item : (xs : List EntryItem) (i : ℕ) (x : EntryItem) → i < length xs → x ≡ get_or xs i x → slice_get xs i ≡ Some x
got_item xs i x l e = slice_get-get_or xs i x l ∙ ap (λ y. Some y) (sym e)

-- the last item's record is there
pub item_within : (old more : List Row) (g : Grown) (n : ℕ) (before : Option ℕ) → IsGrowth old more g → ItemsEnd n (old ++ more) before → IfSome before (IsWithin g)
item_within old more g n None is e = tt
item_within old more g n (Some p) is e =
    let c = words_count old more g is in
    let w = length-words_of (old ++ more) in
    let l : length (old ++ more) ≡ length e.0 + 1 = ap length e.3 ∙ length-append e.0 (ItemRow e.1 ∷ []) in
    let q : p ≡ length e.0 = e.5 in
    omega arith

-- the items end at the new one
pub items_end : (old more : List Row) (g : Grown) (n p : ℕ) (i : Item) → IsGrowth old more g → i.entry ≡ n → p ≡ length (old ++ more) → ItemsEnd n (old ++ (more ++ ItemRow i ∷ [])) (Some p)
items_end old more g n p i is e q = (old ++ more, i, headers_stay old more is.headed, sym (append_assoc old more (ItemRow i ∷ [])), e, q)
