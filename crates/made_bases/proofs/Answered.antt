use Rattle.std.proofs.Common.{◌≡◌, ℕ, List, Result, Ok, Err, refl, sym, ap, subst}
use Rattle.std.specs.Prelude.{IfErr, IfOk}
use Rattle.op_model.specs.declared.base.Base.{Base}
use Rattle.op_model.specs.declared.base.Dataset.{Dataset}
use Rattle.table_ingest.specs.Bases.{Answers, Spells}
use Rattle.table_ingest.specs.declared.errors.TableError.{TableError}
use Rattle.table_ingest.specs.declared.errors.TableError.TheVariants as errors
use Rattle.table_ingest.proofs.BaseLemmas.{base_or_fault, one_base}
use Rattle.made_input.specs.Edges.{IsWish}
use Rattle.made_input.specs.Rows.{table_text}
use Rattle.made_input.specs.Texts.{edge_rows, input_of, said, supervoxel_rows, Input}
use Rattle.made_input.specs.declared.streams.MadeInput.{MadeInput}
use Rattle.made_input.specs.declared.wish.Wish.{Wish}
use Rattle.made_bases.specs.Laws.{base_made}
use Rattle.made_bases.proofs.Edges.{tables_spell}

pub tables_of : (w : Wish) (m : MadeInput) → said m ≡ input_of w → (m.supervoxels.items ≡ table_text (supervoxel_rows w)) × (m.edges.items ≡ table_text (edge_rows w))
unfolding input_of
tables_of w m e = (ap (λ (i : Input). i.supervoxels) e, ap (λ (i : Input). i.edges) e)

-- the answer is the base, unless memory ran out
abbrev pub IsTheBase : Wish → Result Base TableError → Type 0
IsTheBase w r = IfOk r (λ b. b ≡ base_made w) × IfErr r (λ e. e ≡ errors.NoMemory)

pub read_so : (d : Dataset) (w : Wish) → IsWish w → d.layout ≡ w.layout → d.grid ≡ w.grid → (s e : List ℕ) → s ≡ table_text (supervoxel_rows w) → e ≡ table_text (edge_rows w)
    → (r : Result Base TableError) → Answers d s e r → IsTheBase w r
read_so d w ok layout grid s e hs he r h =
    let P : List ℕ → List ℕ → Type 0 = λ x y. Spells d x y (base_made w) in
    let spells : Spells d s e (base_made w) = subst (λ x. P x e) (sym hs) (subst (λ y. P (table_text (supervoxel_rows w)) y) (sym he) (tables_spell w ok d layout grid)) in
    go r h spells
  where
    go : (r : Result Base TableError) → Answers d s e r → Spells d s e (base_made w) → IsTheBase w r
    go (Ok b) h spells = (one_base d s e b (base_made w) h spells, tt)
    go (Err (errors.Bad t n c)) h spells = absurd (base_or_fault d s e (base_made w) t n c spells h)
    go (Err errors.NoMemory) h spells = (tt, refl)
