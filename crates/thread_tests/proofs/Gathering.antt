-- Passes that look, that end their turns and that are gathered.
use Rattle.std.proofs.Common.{◌≡◌, ℕ, ◌+◌, List, ◌++◌, length, take, drop, Option, Some, ◌∙◌, ap, subst, sym, arith}
use Rattle.std.specs.Prelude.{All, IfSome, slice_index_or}
use Rattle.std.specs.Option.{option_to_list}
use Rattle.std.proofs.Math.Seq.{take-append_seam}
use Rattle.std.proofs.lemmas.Option.{slice_get-get_or}
use Rattle.std.proofs.lemmas.List.Elements.{All-pop}
use Rattle.shared_rows.specs.declared.view.View.{View}
use Rattle.shared_rows.specs.Known.{Known, Place, known}
use Rattle.shared_rows.specs.Plays.{Later, joined}
use Rattle.shared_rows.specs.Starts.{Starts}
use Rattle.thread_tests.specs.Ending.{Ends, IsBegun}
use Rattle.thread_tests.specs.Samples.{told}

-- a look leaves a pass as it was but for what it sees
pub ends_looked : (s : Place) (p q : Known) → Ends s p → q.table ≡ p.table → Later p.view p.view q.view → Ends s q
ends_looked s p q e table later = record {
  table_is = table ∙ e.table_is;
  idle = record {
    held = ap (λ (u : View). u.held) later.is ∙ e.idle.held;
    has_turn = ap (λ (u : View). u.turn) later.is ∙ e.idle.has_turn;
    draft = ap (λ (u : View). u.draft) later.is ∙ e.idle.draft;
  };
}

pub ends_same : (s : Place) (p q : Known) → q ≡ p → Ends s p → Ends s q
ends_same s p q e h = subst (Ends s) (sym e) h

pub ends_joined : (s : Place) (p q r : Known) → Ends s p → r ≡ known p.table (joined p.view q.view) → Ends s r
ends_joined s p q r e is = subst (Ends s) (sym is) record { table_is = e.table_is; idle = record { held = e.idle.held; has_turn = e.idle.has_turn; draft = e.idle.draft } }

-- a pass as the start made it may be gathered
pub ends_begun : (s : Place) (p : Known) → IsBegun s p → Ends s p
ends_begun s p b = record {
  table_is = b.table_is;
  idle = record {
    held = ap (λ (u : View). u.held) b.view_is;
    has_turn = ap (λ (u : View). u.turn) b.view_is;
    draft = ap (λ (u : View). u.draft) b.view_is;
  };
}

-- all passes of a start are
pub all_begun : (clients : ℕ) (s : Place) (ps : List Known) → Starts told clients s ps → All (IsBegun s) ps
all_begun clients s ps h = λ k d low.
    let b = h.begins k (slice_index_or ps k d) (slice_get-get_or ps k d low) in
    record { table_is = b.0; origin_is = h.origin_is; number = k + 1; permits = b.1.0; view_is = b.1.1 }

pub all_free : (clients : ℕ) (s : Place) (ps : List Known) → Starts told clients s ps → All (Ends s) ps
all_free clients s ps h = λ k d low. ends_begun s (slice_index_or ps k d) (all_begun clients s ps h k d low)

-- the last pass of a list, and those before it
pub other_ends : (s : Place) (xs ys : List Known) (r : Option Known) (p : Known) → xs ≡ ys ++ option_to_list r → r ≡ Some p → All (Ends s) xs → Ends s p
other_ends s xs ys r p e is h = subst (λ o. IfSome o (Ends s)) is (All-pop (Ends s) xs ys r e h).1

pub rest_ends : (s : Place) (xs ys : List Known) (r : Option Known) → xs ≡ ys ++ option_to_list r → All (Ends s) xs → All (Ends s) ys
rest_ends s xs ys r e h = (All-pop (Ends s) xs ys r e h).0

-- what a vector has after its slice was lent and written
pub taken : (P : Known → Type 0) (xs ys : List Known) (n : ℕ) → n ≡ length xs → length ys ≡ length xs → All P ys → All P (take n (ys ++ drop (length ys) xs))
taken P xs ys n whole same h = subst (All P) (sym (ap (λ k. take k (ys ++ drop (length ys) xs)) (whole ∙ sym same) ∙ take-append_seam ys (drop (length ys) xs))) h
