-- Reads of a reader over a slice.
use Rattle.std.proofs.Common.{◌≡◌, ℕ, List, [], ◌∷◌, Bool, true, false, Option, Some, None, refl, sym, ◌∙◌, ap, subst, inl}
use Rattle.std.specs.Borrow.{Bor}
use Rattle.csv.specs.Machine.{Read, next_record}
use Rattle.csv.specs.Reading.{AreRecords, Reached, ReadRecord, ReadsNext, NextIs, Ready, default_config, strip_bom, reader_trim, reader_config, reader_state, source_of, pending_of, took_first}
use Rattle.csv.specs.declared.parser.State.{State}
use Rattle.csv.specs.declared.parser.State.TheVariants as st
use Rattle.csv.specs.declared.reader.Reader.{Reader}
use Rattle.csv.specs.declared.reader.Trim.TheVariants as trim
use Rattle.csv.proofs.ReadFacts.{rows-end}
use Rattle.table_ingest.specs.Records.{Are, HasLeft, Takes}

abbrev pub Rows : Type 0
Rows = List (List (List ℕ))

-- the records that are left, where the next one is p
pub are-some : (s : State) (left : List ℕ) (rows : Rows) (p : Read) → AreRecords default_config s left rows → next_record default_config s [] [] left ≡ Some p
    → (rest : Rows) × (rows ≡ p.0 ∷ rest) × AreRecords default_config p.1 p.2 rest
unfolding Reached
are-some s left [] p h e = let none : next_record default_config s [] [] left ≡ None = rw (h.2.0, h.2.1) h.3 in cc (none, e)
are-some s left (r ∷ rs) p h e =
    let same : h.2.0 ≡ p = cc (h.2.1, e) in
    let P : Read → Type 0 = λ q. AreRecords default_config q.1 q.2 rs in
    (rs, ap (λ x. x ∷ rs) (h.2.2 ∙ ap (λ (q : Read). q.0) same), subst P same (h.0, h.1, h.2.3, h.3))

pub are-none : (s : State) (left : List ℕ) (rows : Rows) → AreRecords default_config s left rows → next_record default_config s [] [] left ≡ None → rows ≡ []
unfolding Reached
are-none s left [] h e = refl
are-none s left (r ∷ rs) h e = cc (h.2.1, e)

next-case : (s s2 : State) (left z : List ℕ) (fields : List (List ℕ)) (rows : Rows) (o : Option Read) → next_record default_config s [] [] left ≡ o
    → NextIs o true fields s2 z → AreRecords default_config s left rows → (rest : Rows) × (rows ≡ fields ∷ rest) × AreRecords default_config s2 z rest
next-case s s2 left z fields rows None e n h = cc n
next-case s s2 left z fields rows (Some p) e n h =
    let m = are-some s left rows p h e in
    (m.0, m.1 ∙ ap (λ x. x ∷ m.0) (sym n.1), rw (n.2, n.3) m.2)

next-go : (s s2 : State) (left : List ℕ) (k : Option (List ℕ)) (fields : List (List ℕ)) (rows : Rows)
    → ReadsNext default_config s (Some left) k true fields s2 → AreRecords default_config s left rows
    → (z : List ℕ) × (k ≡ Some z) × (rest : Rows) × (rows ≡ fields ∷ rest) × AreRecords default_config s2 z rest
next-go s s2 left None fields rows r h = absurd r
next-go s s2 left (Some z) fields rows r h =
    let m = next-case s s2 left z fields rows _ refl r h in
    (z, refl, m.0, m.1, m.2)

-- what a read of a reader over a slice takes of the records that are left
pub takes_next : (a b : Reader (Bor (List ℕ))) (fields : List (List ℕ)) (found : Bool) (rows : Rows)
    → (reader_trim a ≡ trim.None → took_first b ≡ true)
    → (reader_trim a ≡ trim.None → Ready a → ReadRecord (λ (s : Bor (List ℕ)). Some s.now) a b found fields)
    → HasLeft a rows → Takes b fields rows found
takes_next a b fields true rows first reads h =
    let r = reads h.0 h.1 in
    let g = next-go a.state b.state h.3 (pending_of (Some b.rdr.now) b) fields rows (rw (h.2, h.4) at r.0) h.5 in
    (g.2, g.3, (r.3 ∙ h.0, inl (first h.0), r.2 ∙ h.2, g.0, rw r.1 g.1, g.4))
takes_next a b fields false rows first reads h =
    are-none a.state h.3 rows h.5 (rows-end (λ (s : Bor (List ℕ)). Some s.now) a b fields default_config h.3 h.2 h.4 (reads h.0 h.1))

-- a reader that was just made has all records left
pub fresh : (text : List ℕ) (rdr : Reader (Bor (List ℕ))) → reader_trim rdr ≡ trim.None → Ready rdr → reader_config rdr ≡ default_config → source_of (λ (s : Bor (List ℕ)). Some s.now) rdr ≡ Some (strip_bom text) → reader_state rdr ≡ st.StartRecord
    → (rows : Rows) → Are text rows → HasLeft rdr rows
fresh text rdr t ready config source state rows are = (t, ready, config, strip_bom text, source, rw state are)
