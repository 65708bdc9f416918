use Rattle.std.proofs.Common.{◌≡◌, ℕ, ◌+◌, List, take, drop, Some, option_map, position, sym, ◌∙◌, ap, ap₂, ◌==◌}
use Rattle.std.proofs.lemmas.List.{drop-drop}
use Rattle.pcg_base.specs.Cutting.{cut_at}

-- the cut at the place where the byte stands
pub cut_here : (byte : ℕ) (text : List ℕ) (at : ℕ) (front rest back : List ℕ) → position (λ b. b == byte) text ≡ Some at
    → front ≡ take at text → rest ≡ drop at text → back ≡ drop 1 rest → Some (front, back) ≡ cut_at byte text
cut_here byte text at front rest back e f r b =
    let behind : back ≡ drop (at + 1) text = b ∙ ap (drop 1) r ∙ drop-drop 1 at text in
    ap₂ (λ (x y : List ℕ). Some (x, y)) f behind ∙ sym (ap (option_map (λ (i : ℕ). (take i text, drop (i + 1) text))) e)
