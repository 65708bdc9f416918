-- The first record that a test passes, with more records behind.
use Rattle.std.proofs.Common.{◌≡◌, ℕ, ◌+◌, ◌<◌, Bool, true, false, cond, List, [], ◌∷◌, ◌++◌, length, refl, ◌∙◌, arith}
use Rattle.std.specs.List.{list_any}
use Rattle.record_rows.specs.Rows.{Row}
use Rattle.record_rows.specs.Words.{place_from}
use Rattle.row_append.specs.Laws.{FoundStays, FoundLast}
use Rattle.row_append.proofs.Leaving.{or_none}

stays_from : (test : Row → Bool) (place : ℕ) (rows more : List Row) → 0 < place_from test place rows → place_from test place (rows ++ more) ≡ place_from test place rows
unfolding place_from
stays_from test place [] more h = absurd (omega arith)
stays_from test place (row ∷ rows) more h = go (test row) h (stays_from test (place + 1) rows more)
  where
    go : (b : Bool) → 0 < cond b place (place_from test (place + 1) rows) → (0 < place_from test (place + 1) rows → place_from test (place + 1) (rows ++ more) ≡ place_from test (place + 1) rows)
        → cond b place (place_from test (place + 1) (rows ++ more)) ≡ cond b place (place_from test (place + 1) rows)
    go true h f = refl
    go false h f = f h

last_from : (test : Row → Bool) (place : ℕ) (rows : List Row) (row : Row) → list_any test rows ≡ false → test row ≡ true → place_from test place (rows ++ row ∷ []) ≡ place + length rows
unfolding place_from
last_from test place [] row n t = rw t (omega arith)
last_from test place (r ∷ rows) row n t =
    let q : (test r ≡ false) × (list_any test rows ≡ false) = or_none (test r) (list_any test rows) n in
    let e : place + length (r ∷ rows) ≡ place + 1 + length rows = omega arith in
    rw (q.0, e) (last_from test (place + 1) rows row q.1 t)

pub found_stays : FoundStays
found_stays test rows more h = stays_from test 0 rows more h

pub found_last : FoundLast
found_last test rows row n t = last_from test 0 rows row n t ∙ (let e : 0 + length rows ≡ length rows = omega arith in e)
