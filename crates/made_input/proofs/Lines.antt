-- The lines of the tables, one after the other.
use Rattle.std.proofs.Common.{◌≡◌, ◌∙◌, ℕ, suc, ◌+◌, ◌<◌, subst, Vec, Global, length, take, get_or, ap, sym, refl, arith, List, [], ◌∷◌, ◌++◌, map, codes, append_assoc, append-nil}
use Rattle.std.proofs.lemmas.List.{map-append, take_more}
use Rattle.made_input.specs.Rows.{Text, more_fields, record_text, table_text}
use Rattle.made_input.specs.Texts.{edge_fields, edge_header, id_text, line_of, numbers_below, stream_of, streams_of, supervoxel_rows}
use Rattle.made_input.specs.Edges.{edges_below}
use Rattle.made_input.specs.declared.edges.MadeEdge.{MadeEdge}
use Rattle.made_input.specs.declared.wish.Wish.{Wish}

table_text-append : (rows : List (List Text)) (r : List Text) → table_text (rows ++ r ∷ []) ≡ table_text rows ++ record_text r
unfolding table_text
table_text-append [] r = append-nil (record_text r)
table_text-append (fields ∷ rows) r = ap (λ t. record_text fields ++ t) (table_text-append rows r) ∙ sym (append_assoc (record_text fields) (table_text rows) (record_text r))

abbrev pub rows_below : Wish → ℕ → List (List Text)
rows_below w k = (codes "supervoxel" ∷ []) ∷ map (λ k. id_text w k ∷ []) (numbers_below k)

pub first_line : (w : Wish) (before text : Text) → before ≡ [] → text ≡ before ++ codes "supervoxel\n" → text ≡ table_text (rows_below w 0)
unfolding table_text numbers_below more_fields
first_line w before text none e = e ∙ ap (λ t. t ++ codes "supervoxel\n") none

pub next_line : (w : Wish) (k : ℕ) → table_text (rows_below w (k + 1)) ≡ table_text (rows_below w k) ++ record_text (id_text w k ∷ [])
unfolding numbers_below
next_line w k =
    let next : k + 1 ≡ suc k = omega arith in
    ap (λ n. table_text (rows_below w n)) next
    ∙ ap (λ rows. table_text ((codes "supervoxel" ∷ []) ∷ rows)) (map-append (λ k. id_text w k ∷ []) (numbers_below k) (k ∷ []))
    ∙ table_text-append (rows_below w k) (id_text w k ∷ [])

pub all_lines : (w : Wish) → table_text (supervoxel_rows w) ≡ table_text (rows_below w w.size)
unfolding supervoxel_rows
all_lines w = refl

-- ---- edges

abbrev pub edges_upto : Wish → List MadeEdge → ℕ → List (List Text)
edges_upto w edges i = edge_header ∷ map (edge_fields w) (take i edges)

pub first_edge : (w : Wish) (edges : List MadeEdge) (before text : Text) → before ≡ [] → text ≡ before ++ codes "a,b,affinity,active\n" → text ≡ table_text (edges_upto w edges 0)
unfolding table_text more_fields
first_edge w edges before text none e = e ∙ ap (λ t. t ++ codes "a,b,affinity,active\n") none

pub next_edge : (w : Wish) (edges : List MadeEdge) (i : ℕ) (d : MadeEdge) → i < length edges → table_text (edges_upto w edges (i + 1)) ≡ table_text (edges_upto w edges i) ++ record_text (edge_fields w (get_or edges i d))
next_edge w edges i d lt =
    ap (λ rows. table_text (edge_header ∷ rows)) (ap (map (edge_fields w)) (take_more edges i d lt) ∙ map-append (edge_fields w) (take i edges) (get_or edges i d ∷ []))
    ∙ table_text-append (edges_upto w edges i) (edge_fields w (get_or edges i d))

-- ---- pieces

pub three : (old a b c one two last : Text) → one ≡ old ++ a → two ≡ one ++ b → last ≡ two ++ c → last ≡ old ++ (a ++ (b ++ c))
three old a b c one two last e f g = g ∙ ap (λ t. t ++ c) (f ∙ ap (λ t. t ++ b) e) ∙ append_assoc (old ++ a) b c ∙ append_assoc old a (b ++ c)

pub five : (old a b c d e one two three_ four last : Text) → one ≡ old ++ a → two ≡ one ++ b → three_ ≡ two ++ c → four ≡ three_ ++ d → last ≡ four ++ e → last ≡ old ++ (a ++ (b ++ (c ++ (d ++ e))))
five old a b c d e one two three_ four last p q r s t =
    three two c d e three_ four last r s t
    ∙ ap (λ x. x ++ (c ++ (d ++ e))) (q ∙ ap (λ x. x ++ b) p) ∙ append_assoc (old ++ a) b (c ++ (d ++ e)) ∙ append_assoc old a (b ++ (c ++ (d ++ e)))

-- ---- streams

abbrev pub IsAt : Text × ℕ → Text → ℕ → Type 0
IsAt made text state = (text ≡ made.0) × (state ≡ made.1)

pub no_line : (w : Wish) (s : ℕ) (text : Text) → text ≡ [] → IsAt (stream_of w s 0) text s
unfolding stream_of
no_line w s text e = (e, refl)

pub next_request : (w : Wish) (s j : ℕ) (before after : Text) (at to : ℕ) → IsAt (stream_of w s j) before at → after ≡ before ++ (line_of w (j + 1) at).0 → to ≡ (line_of w (j + 1) at).1 → IsAt (stream_of w s (j + 1)) after to
unfolding stream_of
next_request w s j before after at to h a b =
    let one : j + 1 ≡ suc j = omega arith in
    subst (λ n. IsAt (stream_of w s n) after to) (sym one)
    (a ∙ (λ i. h.0 i ++ (line_of w (j + 1) (h.1 i)).0), b ∙ ap (λ n. (line_of w (j + 1) n).1) h.1)

abbrev pub AreAt : List Text × ℕ → List (Vec ℕ Global) → ℕ → Type 0
AreAt made texts state = (map (λ (v : Vec ℕ Global). v.items) texts ≡ made.0) × (state ≡ made.1)

pub no_stream : (w : Wish) (texts : List (Vec ℕ Global)) (s : ℕ) (made : List MadeEdge) → texts ≡ [] → edges_below w w.size ≡ (made, s) → AreAt (streams_of w 0) texts s
unfolding streams_of
no_stream w texts s made e f = (ap (map (λ (v : Vec ℕ Global). v.items)) e, sym (ap (λ (m : List MadeEdge × ℕ). m.1) f))

pub next_stream : (w : Wish) (i : ℕ) (texts after : List (Vec ℕ Global)) (at to : ℕ) (v : Vec ℕ Global) → AreAt (streams_of w i) texts at → IsAt (stream_of w at w.requests) v.items to → after ≡ texts ++ v ∷ [] → AreAt (streams_of w (i + 1)) after to
unfolding streams_of
next_stream w i texts after at to v h g e =
    let one : i + 1 ≡ suc i = omega arith in
    subst (λ n. AreAt (streams_of w n) after to) (sym one) (
      ap (map (λ (v : Vec ℕ Global). v.items)) e ∙ map-append (λ (v : Vec ℕ Global). v.items) texts (v ∷ [])
          ∙ (λ j. h.0 j ++ (g.0 ∙ ap (λ n. (stream_of w n w.requests).0) h.1) j ∷ []),
      g.1 ∙ ap (λ n. (stream_of w n w.requests).1) h.1,
    )
