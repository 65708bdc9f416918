-- What the search for the record of a pair tells.
use Rattle.std.proofs.Common.{◌≡◌, ℕ, Bool, true, false, List, [], ◌∷◌, length, Option, Some, refl, sym, ◌∙◌, ap, subst}
use Rattle.std.specs.List.{slice_get, list_any}
use Rattle.op_model.specs.declared.base.Dataset.{Dataset}
use Rattle.op_model.specs.declared.base.Base.{Base}
use Rattle.op_model.specs.declared.base.Pair.{Pair}
use Rattle.op_model.specs.declared.base.Edge.{Edge}
use Rattle.op_model.specs.declared.entry.Entry.{Entry}
use Rattle.op_model.specs.Edges.{same_pair}
use Rattle.op_model.specs.Labels.{edges}
use Rattle.op_model.specs.Legal.{Legal}
use Rattle.record_rows.specs.Rows.{Row, HeaderRow}
use Rattle.record_rows.specs.Chains.{is_edge}
use Rattle.record_rows.specs.LogRows.{chunks, rows_of}
use Rattle.record_rows.specs.Readings.{HoldsEdge, Image, first_place}
use Rattle.record_rows.proofs.ImageFacts.{header, parent_image}
use Rattle.record_rows.proofs.NodePlaces.{found_from}
use Rattle.record_rows.proofs.WalkLemmas.{LeadsTo, first_leads}
use Rattle.edge_rows.proofs.Walks.{edge_row}
use Rattle.chain_ends.proofs.Keys.{edge_known, edge_recorded}
use Rattle.chain_ends.proofs.Lasts.{first_some}

no_header : (p : Pair) (d : Dataset) (m n : ℕ) → is_edge p (HeaderRow d m n) ≡ false
unfolding is_edge
no_header p d m n = refl

-- the record that is found is that of the pair's edge
pub edge_found : (d : Dataset) (b : Base) (log : List Entry) (words : List ℕ) → Image d b log words → (p : Pair) (place : ℕ) {found : Option ℕ} → found ≡ first_place (is_edge p) (rows_of d b log) → found ≡ Some place
    → (made : ℕ) × (x : Edge) × HoldsEdge d b log place made x × (x.pair ≡ p)
edge_found d b log words i p place e f =
    let z : LeadsTo (is_edge p) (rows_of d b log) (Some place) =
    subst (LeadsTo (is_edge p) (rows_of d b log)) (sym e ∙ f) (first_leads (is_edge p) (rows_of d b log) _ (header d b log words (parent_image d b log words i)) (no_header p d (length b.supervoxels) (length (chunks d b)))) in
    let r = edge_row p z.1 z.3 in
    (r.0, r.1, z.2 ∙ ap (λ x. Some x) r.2, r.3)

-- where one is found the pair is one of the log's edges,
pub found_known : (d : Dataset) (b : Base) (log : List Entry) (words : List ℕ) → Image d b log words → (p : Pair) (place : ℕ) {found : Option ℕ} → found ≡ first_place (is_edge p) (rows_of d b log) → found ≡ Some place
    → list_any (λ f. same_pair f.pair p) (edges d b log) ≡ true
found_known d b log words i p place e f =
    let z : LeadsTo (is_edge p) (rows_of d b log) (Some place) =
    subst (LeadsTo (is_edge p) (rows_of d b log)) (sym e ∙ f) (first_leads (is_edge p) (rows_of d b log) _ (header d b log words (parent_image d b log words i)) (no_header p d (length b.supervoxels) (length (chunks d b)))) in
    go log i.legal z.1 z.2 z.3
  where
    go : (old : List Entry) → Legal d b old → (row : Row) → slice_get (rows_of d b old) place ≡ Some row → is_edge p row ≡ true → list_any (λ g. same_pair g.pair p) (edges d b old) ≡ true
    go [] legal row h t = absurd legal
    go (x ∷ old) legal row h t = edge_known d b x old legal place p row h t

-- and where none is, it is not
pub none_unknown : (d : Dataset) (b : Base) (log : List Entry) (words : List ℕ) → Image d b log words → (p : Pair) {found : Option ℕ} → found ≡ first_place (is_edge p) (rows_of d b log) → ((place : ℕ) → found ≡ Some place → ⊥)
    → list_any (λ f. same_pair f.pair p) (edges d b log) ≡ false
none_unknown d b log words i p e n = go (list_any (λ f. same_pair f.pair p) (edges d b log)) refl
  where
    recorded : (old : List Entry) → Legal d b old → list_any (λ f. same_pair f.pair p) (edges d b old) ≡ true → list_any (is_edge p) (rows_of d b old) ≡ true
    recorded [] legal k = absurd legal
    recorded (x ∷ old) legal k = edge_recorded d b x old legal p k

    go : (t : Bool) → list_any (λ f. same_pair f.pair p) (edges d b log) ≡ t → t ≡ false
    go true k =
        let f = found_from (is_edge p) (rows_of d b log) 0 (rows_of d b log) refl (recorded log i.legal k) in
        let z = first_some (is_edge p) (rows_of d b log) _ (header d b log words (parent_image d b log words i)) (no_header p d (length b.supervoxels) (length (chunks d b))) e _ f.0 f.1 f.2 in
        absurd (n z.0 z.2)
    go false k = refl
