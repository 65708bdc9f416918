-- Fronts of the tables and streams.
use Rattle.std.proofs.Common.{◌≡◌, ◌∙◌, ℕ, zero, suc, ◌+◌, ◌-◌, ◌≤◌, refl, sym, ap, subst, arith, List, [], ◌∷◌, ◌++◌, map, take, drop, append_assoc, append-nil}
use Rattle.std.proofs.lemmas.List.{map-append, take-append-drop}
use Rattle.made_input.specs.Rows.{Text, record_text, table_text}
use Rattle.made_input.specs.Texts.{edge_fields, edge_header, id_text, line_of, stream_of, supervoxel_rows}
use Rattle.made_input.specs.declared.edges.MadeEdge.{MadeEdge}
use Rattle.made_input.specs.declared.wish.Wish.{Wish}
use Rattle.made_input.proofs.Lines.{all_lines, edges_upto, next_line, rows_below}

-- a front of a text
abbrev pub IsFront : Text → Text → Type 0
IsFront front whole = (rest : Text) × (whole ≡ front ++ rest)

-- a text that grows at each step
front_after : (f : ℕ → Text) → ((n : ℕ) → IsFront (f n) (f (n + 1))) → (k d : ℕ) → IsFront (f k) (f (k + d))
front_after f step k zero =
    let e : k + 0 ≡ k = omega arith in
    ([], ap f e ∙ sym (append-nil (f k)))
front_after f step k (suc d) =
    let e : k + suc d ≡ (k + d) + 1 = omega arith in
    let r = front_after f step k d in
    let s = step (k + d) in
    (r.0 ++ s.0, ap f e ∙ s.1 ∙ ap (λ t. t ++ s.0) r.1 ∙ append_assoc (f k) r.0 s.0)

front_at : (f : ℕ → Text) → ((n : ℕ) → IsFront (f n) (f (n + 1))) → (k n : ℕ) → k ≤ n → IsFront (f k) (f n)
front_at f step k n le =
    let e : k + (n - k) ≡ n = omega (arith, le) in
    subst (λ m. IsFront (f k) (f m)) e (front_after f step k (n - k))

-- the first records of the supervoxel table
pub front_rows : (w : Wish) (k : ℕ) → k ≤ w.size → IsFront (table_text (rows_below w k)) (table_text (supervoxel_rows w))
front_rows w k le =
    subst (λ t. IsFront (table_text (rows_below w k)) t) (sym (all_lines w))
    (front_at (λ n. table_text (rows_below w n)) (λ n. (record_text (id_text w n ∷ []), next_line w n)) k w.size le)

rows_append : (xs ys : List (List Text)) → table_text (xs ++ ys) ≡ table_text xs ++ table_text ys
unfolding table_text
rows_append [] ys = refl
rows_append (x ∷ xs) ys = ap (λ t. record_text x ++ t) (rows_append xs ys) ∙ sym (append_assoc (record_text x) (table_text xs) (table_text ys))

-- the first records of the edge table
pub front_edges : (w : Wish) (edges : List MadeEdge) (i : ℕ) → IsFront (table_text (edges_upto w edges i)) (table_text (edge_header ∷ map (edge_fields w) edges))
front_edges w edges i = (
  table_text (map (edge_fields w) (drop i edges)),
  ap (λ es. table_text (edge_header ∷ map (edge_fields w) es)) (sym (take-append-drop i edges))
      ∙ ap (λ rows. table_text (edge_header ∷ rows)) (map-append (edge_fields w) (take i edges) (drop i edges))
      ∙ rows_append (edges_upto w edges i) (map (edge_fields w) (drop i edges)),
)

-- one line more of a stream
pub more_lines : (w : Wish) (s j : ℕ) → stream_of w s (j + 1) ≡ ((stream_of w s j).0 ++ (line_of w (j + 1) (stream_of w s j).1).0, (line_of w (j + 1) (stream_of w s j).1).1)
unfolding stream_of
more_lines w s j =
    let one : j + 1 ≡ suc j = omega arith in
    ap (stream_of w s) one

-- the first lines of a stream
pub front_lines : (w : Wish) (s j : ℕ) → j ≤ w.requests → IsFront (stream_of w s j).0 (stream_of w s w.requests).0
front_lines w s j le =
    front_at (λ n. (stream_of w s n).0) (λ n. ((line_of w (n + 1) (stream_of w s n).1).0, ap (λ (m : Text × ℕ). m.0) (more_lines w s n))) j w.requests le

-- what a cleared buffer holds
pub held_piece : (cleared piece text : Text) → cleared ≡ [] → piece ≡ cleared ++ text → piece ≡ text
held_piece cleared piece text none e = e ∙ ap (λ t. t ++ text) none
