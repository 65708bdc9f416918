-- How far a search for the next line has come.
use Rattle.std.proofs.Common.{◌≡◌, ℕ, zero, suc, Bool, false, ◌+◌, ◌-◌, ◌^◌, ◌<◌, ◌≤◌, List, [], ◌++◌, length, Option, None, Some, refl, sym, ap, ap₂, ◌∙◌, arith, subst}
use Rattle.std.specs.Io.KnownBytes.{Consumes}
use Rattle.std.proofs.lemmas.List.{append-nil, append_assoc, length-append}
use Rattle.client_session.proofs.Feeding.{no_feed_both}
use Rattle.client_session.proofs.Nexting.{long_none}
use Rattle.client_session.specs.declared.found.Found.TheVariants as finds
use Rattle.client_session.specs.Feeds.{NoFeed}
use Rattle.client_session.specs.Finding.{Finds}
use Rattle.client_session.specs.declared.found.Found.{Found}

-- a front of the line was let go, and what waits has no line feed
pub record Reached (w0 w1 : List ℕ) (taken0 taken1 skipped : ℕ) (left0 left1 : Option (List ℕ)) : Type 0 where
  pub read : List ℕ
  pub gone : List ℕ
  pub consumes : Consumes left0 left1 read
  pub taken : taken1 ≡ taken0 + length read
  pub count : length gone ≡ skipped
  pub gone_none : NoFeed gone
  pub held : w0 ++ read ≡ gone ++ w1

consumes_none : (a : Option (List ℕ)) → Consumes a a []
consumes_none None = tt
consumes_none (Some xs) = refl

consumes_more : (a b c : Option (List ℕ)) (xs ys : List ℕ) → Consumes a b xs → Consumes b c ys → Consumes a c (xs ++ ys)
consumes_more None b c xs ys h k = tt
consumes_more (Some p) None c xs ys h k = absurd h
consumes_more (Some p) (Some q) None xs ys h k = absurd k
consumes_more (Some p) (Some q) (Some r) xs ys h k = h ∙ ap (λ w. xs ++ w) k ∙ sym (append_assoc xs ys r)

pub reached_first : (w : List ℕ) (taken : ℕ) (left : Option (List ℕ)) → Reached w w taken taken 0 left left
reached_first w taken left = record {
  read = [];
  gone = [];
  consumes = consumes_none left;
  taken = omega arith;
  count = refl;
  gone_none = refl;
  held = append-nil w;
}

-- a front that is too long for a line is let go
reached_aside : (w0 w1 w2 : List ℕ) (t0 t1 skipped aside : ℕ) (left0 left1 : Option (List ℕ)) → Reached w0 w1 t0 t1 skipped left0 left1 → NoFeed w1
    → (aside ≡ 0 → w2 ≡ w1) → (0 < aside → (w2 ≡ []) × (aside ≡ length w1) × (65536 < aside)) → Reached w0 w2 t0 t1 (skipped + aside) left0 left1
reached_aside w0 w1 w2 t0 t1 skipped zero left0 left1 r none kept gone =
    let e : skipped ≡ skipped + 0 = omega arith in
    subst (λ s. Reached w0 w2 t0 t1 s left0 left1) e (subst (λ w. Reached w0 w t0 t1 skipped left0 left1) (sym (kept refl)) r)
reached_aside w0 w1 w2 t0 t1 skipped (suc k) left0 left1 r none kept gone =
    let g = gone (omega arith) in
    let long : length w1 ≡ suc k = sym g.1 in
    record {
      read = r.read;
      gone = r.gone ++ w1;
      consumes = r.consumes;
      taken = r.taken;
      count = length-append r.gone w1 ∙ ap₂ (λ (a b : ℕ). a + b) r.count long;
      gone_none = no_feed_both r.gone w1 r.gone_none none;
      held = r.held ∙ sym (ap (λ w. (r.gone ++ w1) ++ w) g.0 ∙ append-nil (r.gone ++ w1));
    }

-- more is read
reached_read : (w0 w1 w2 more : List ℕ) (t0 t1 t2 skipped : ℕ) (left0 left1 left2 : Option (List ℕ)) → Reached w0 w1 t0 t1 skipped left0 left1
    → w2 ≡ w1 ++ more → Consumes left1 left2 more → t2 ≡ t1 + length more → Reached w0 w2 t0 t2 skipped left0 left2
reached_read w0 w1 w2 more t0 t1 t2 skipped left0 left1 left2 r e c t = record {
  read = r.read ++ more;
  gone = r.gone;
  consumes = consumes_more left0 left1 left2 r.read more r.consumes c;
  taken = t ∙ ap (λ n. n + length more) r.taken ∙ omega (arith, length-append r.read more);
  count = r.count;
  gone_none = r.gone_none;
  held = sym (append_assoc w0 r.read more) ∙ ap (λ w. w ++ more) r.held ∙ append_assoc r.gone w1 more ∙ ap (λ w. r.gone ++ w) (sym e);
}

-- how many bytes were let go
pub reached_count : (w0 w1 : List ℕ) (t0 t1 skipped : ℕ) (left0 left1 : Option (List ℕ)) → Reached w0 w1 t0 t1 skipped left0 left1
    → length w0 ≤ t0 → (skipped + length w1 ≤ t1) × (t1 - length w1 - skipped ≡ t0 - length w0)
reached_count w0 w1 t0 t1 skipped left0 left1 r fits =
    let a : length w0 + length r.read ≡ length r.gone + length w1 = sym (length-append w0 r.read) ∙ ap length r.held ∙ length-append r.gone w1 in
    let c = r.count in
    let t = r.taken in
    (omega (arith, a, c, t, fits), omega (arith, a, c, t, fits))

-- what is found behind what was let go
abbrev pub Answered : Found → List ℕ → List ℕ → List ℕ → Bool → Bool → ℕ → ℕ → Option (List ℕ) → Option (List ℕ) → ℕ → ℕ → Type 0
Answered r bytes w0 rest was over t0 t2 left0 left2 before now = (read : List ℕ) × Consumes left0 left2 read × (t2 ≡ t0 + length read)
    × Finds r bytes (t0 - length w0) (w0 ++ read) rest was over left2 before now

pub answered : (r : Found) (bytes w0 w1 rest : List ℕ) (was over : Bool) (t0 t1 t2 skipped before now : ℕ) (left0 left1 : Option (List ℕ)) → Reached w0 w1 t0 t1 skipped left0 left1
    → length w0 ≤ t0 → was ≡ false → t2 ≡ t1
    → ((gone : List ℕ) → length gone ≡ skipped → NoFeed gone → Finds r bytes (t1 - length w1 - skipped) (gone ++ w1) rest false over left1 before now)
    → Answered r bytes w0 rest was over t0 t2 left0 left1 before now
answered r bytes w0 w1 rest was over t0 t1 t2 skipped before now left0 left1 x fits shut same cut =
    let n = reached_count w0 w1 t0 t1 skipped left0 left1 x fits in
    let f = cut x.gone x.count x.gone_none in
    let f2 = subst (λ g. Finds r bytes g (x.gone ++ w1) rest false over left1 before now) n.1 f in
    let f3 = subst (λ h. Finds r bytes (t0 - length w0) h rest false over left1 before now) (sym x.held) f2 in
    (x.read, x.consumes, same ∙ x.taken, subst (λ b. Finds r bytes (t0 - length w0) (w0 ++ x.read) rest b over left1 before now) (sym shut) f3)

-- one turn of the search
pub turned : (w0 w1 wa w2 : List ℕ) (t0 t1 ta t2 skipped aside n : ℕ) (left0 left1 left2 : Option (List ℕ)) → Reached w0 w1 t0 t1 skipped left0 left1 → NoFeed w1
    → (aside ≡ 0 → wa ≡ w1) → (0 < aside → (wa ≡ []) × (aside ≡ length w1) × (65536 < aside)) → ta ≡ t1 → t2 ≡ ta + n
    → ((more : List ℕ) × (length more ≡ n) × (w2 ≡ wa ++ more) × Consumes left1 left2 more)
    → Reached w0 w2 t0 t2 (skipped + aside) left0 left2
turned w0 w1 wa w2 t0 t1 ta t2 skipped aside n left0 left1 left2 r none kept gone same grows m =
    reached_read w0 wa w2 m.0 t0 t1 t2 (skipped + aside) left0 left1 left2
    (reached_aside w0 w1 wa t0 t1 skipped aside left0 left1 r none kept gone) m.2 m.3
    (grows ∙ ap₂ (λ (a b : ℕ). a + b) same (sym m.1))

-- the stream is too long
pub too_long : (w0 w1 rest bytes : List ℕ) (was over : Bool) (t0 t1 skipped f0 f1 : ℕ) (left0 left1 : Option (List ℕ)) → Reached w0 w1 t0 t1 skipped left0 left1 → NoFeed w1
    → length w0 ≤ t0 → 2 ^ 30 < t1
    → Answered finds.TooLong bytes w0 rest was over t0 t1 left0 left1 f0 f1
too_long w0 w1 rest bytes was over t0 t1 skipped f0 f1 left0 left1 r none fits long =
    let sum = length-append w0 r.read in
    let t = r.taken in
    (r.read, r.consumes, r.taken, long_none (w0 ++ r.read) (t0 - length w0) (subst NoFeed (sym r.held) (no_feed_both r.gone w1 r.gone_none none)) (omega (arith, sum, t, fits, long)))
