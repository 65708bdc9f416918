use Rattle.std.proofs.Common.{◌≡◌, ℕ, ◌+◌, ◌-◌, ◌*◌, List, [], ◌++◌, length, map, take}
use Rattle.op_model.specs.declared.base.Dataset.{Dataset}
use Rattle.record_rows.specs.Rows.{Node, LinkRow}
use Rattle.record_rows.specs.Words.{words_of}
use Rattle.base_rows.specs.declared.lists.BaseEdge.{BaseEdge}
use Rattle.base_rows.specs.Lists.{AreNodes, link_of}
use Rattle.base_rows.specs.BaseRows.{noded_rows, ids_of}
use Rattle.base_rows.specs.States.{Linking}
use Rattle.base_rows.proofs.links.put_links.Given as goal

abbrev pub invariant-loop-link : goal.invariant-loop-link
invariant-loop-link l =
    ((d : Dataset) (chunks : List ℕ) (edges : List BaseEdge) (ns : List Node) → l.first ≡ length (noded_rows d l.ids chunks edges [])
    → l.fn.w.words ≡ words_of (noded_rows d l.ids chunks edges ns) → AreNodes chunks l.nodes ns
    → Linking l.ids (ids_of ns) l.first (noded_rows d l.ids chunks edges ns ++ map (λ x. LinkRow (link_of (l.ids ++ ids_of ns) (ids_of ns) x)) (take l.link-index l.links)) l.w.words
    l.children.items l.versions.items)
    × (length l.w.words ≡ length l.fn.w.words + 8 * l.link-index) × (l.w.spare ≡ l.fn.w.spare - 8 * l.link-index)
